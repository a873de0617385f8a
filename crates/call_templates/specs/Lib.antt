pub mod CallLaw
pub mod Calls
