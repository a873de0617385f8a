pub mod Calls
pub mod Labels
pub mod Lists
pub mod Made
pub mod Nests
pub mod NewName
pub mod PlainNests
pub mod ProperTexts
pub mod ShorterChains
pub mod Still
mod TextCases
pub mod Typed
