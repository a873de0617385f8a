pub mod JumpLaw
pub mod Jumps
