pub mod StateView
pub mod Views
