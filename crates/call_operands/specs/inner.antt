pub mod ActualPlaces
pub mod Rules
