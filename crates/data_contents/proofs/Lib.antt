pub mod Bits
mod ContentCases
pub mod Filling
pub mod Insides
pub mod Ordering
