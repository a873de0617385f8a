pub mod Common
pub mod NameCases
pub mod TextCases
