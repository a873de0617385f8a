pub mod Chain
pub mod ChainLaws
pub mod CycleLines
pub mod Search
pub mod inner
