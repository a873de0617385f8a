pub mod ActualLists
pub mod Calls
pub mod LeastRules
pub mod Misses
