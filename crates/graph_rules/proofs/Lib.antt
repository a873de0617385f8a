pub mod Divisors
pub mod LocalOrder
pub mod Nesting
pub mod Runs
