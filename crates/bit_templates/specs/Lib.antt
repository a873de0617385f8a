pub mod BitLaw
pub mod Bits
pub mod Brackets
