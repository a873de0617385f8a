pub mod FirstBreak
pub mod Sets
mod TokenCases
