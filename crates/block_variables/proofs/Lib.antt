pub mod Firsts
pub mod FormalLists
pub mod Interfaces
