pub mod Adding
pub mod Nexts
pub mod Exiting
pub mod Found
pub mod Takes
pub mod Texts
pub mod ListArms
pub mod ListTexts
