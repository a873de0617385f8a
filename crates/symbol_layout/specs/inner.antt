pub mod Capped
pub mod Scopes
