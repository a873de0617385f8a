pub mod Lists
pub mod Names
pub mod Scopes
pub mod Variables
