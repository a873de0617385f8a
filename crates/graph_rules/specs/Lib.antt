pub mod Divisors
pub mod Flow
pub mod Plain
pub mod Runs
pub mod Writes
