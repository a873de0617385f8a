pub mod Common
pub mod Ends
