mod BitEffects
mod BracketEffects
mod Chains
pub mod CountBits
mod EdgeEffects
pub mod OrderBits
pub mod PlainBits
pub mod ReadBits
pub mod Serving
pub mod StatusEffects
