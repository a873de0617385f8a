pub mod Judge
pub mod Machine
pub mod Steps
