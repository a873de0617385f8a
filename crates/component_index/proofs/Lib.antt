pub mod Aligned
pub mod Finding
pub mod Growing
pub mod Stepping
pub mod Tables
