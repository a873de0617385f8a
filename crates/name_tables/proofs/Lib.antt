pub mod Firsts
pub mod Lists
pub mod PlaceTables
pub mod Places
pub mod Tables
