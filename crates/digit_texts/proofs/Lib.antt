mod Kept
pub mod SomeDigits
