mod JumpEffects
pub mod Serving
