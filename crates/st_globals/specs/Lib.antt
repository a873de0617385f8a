pub mod Globals
pub mod KeptLaws
pub mod NamedText
pub mod Variables
pub mod WithVariables
pub mod inner
