pub mod FormalPlaces
pub mod Kept
