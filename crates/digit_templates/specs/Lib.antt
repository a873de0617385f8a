pub mod DigitLaw
pub mod FromDigits
pub mod ToDigits
