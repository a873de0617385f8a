mod BlockCases
pub mod ItemCases
pub mod Skipping
