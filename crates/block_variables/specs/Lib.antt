pub mod Firsts
pub mod inner
