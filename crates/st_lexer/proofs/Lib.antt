pub mod Common
pub mod Digits
mod Following
mod Lines
pub mod LiteralCuts
pub mod NumberCuts
pub mod PlaceCuts
mod Sizes
mod StTokenCases
pub mod TokenFacts
mod TokenLaws
pub mod Words
