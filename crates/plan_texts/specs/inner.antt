pub mod Leads
pub mod Lists
pub mod Steps
