pub mod Accepting
pub mod Chains
pub mod Cycles
pub mod Formals
pub mod Judging
pub mod Lists
pub mod Refusing
pub mod Turns
