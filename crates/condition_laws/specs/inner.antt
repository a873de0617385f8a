pub mod Negation
pub mod Rewriting
