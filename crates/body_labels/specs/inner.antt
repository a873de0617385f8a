pub mod Listed
pub mod Positions
