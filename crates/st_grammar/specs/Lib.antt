pub mod Derives
pub mod Forms
pub mod Grammar
pub mod Kinds
pub mod Levels
pub mod Syntax
pub mod inner
