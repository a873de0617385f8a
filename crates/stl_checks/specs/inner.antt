pub mod Chains
pub mod Formals
