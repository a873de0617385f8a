pub mod AccumulatorParts
pub mod Moves
pub mod DataBlocks
pub mod Sums
pub mod Logic
pub mod Conversions
pub mod AccumulatorLaw
