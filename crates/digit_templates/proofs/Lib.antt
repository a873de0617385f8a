pub mod DigitSums
pub mod FromDigitEffects
pub mod Serving
pub mod PlainDigits
pub mod ToDigitEffects
