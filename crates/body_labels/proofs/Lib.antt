pub mod Counting
pub mod Targets
