pub mod Called
pub mod Copies
pub mod Views
