pub mod Contents
pub mod Filtered
pub mod FunctionBlocks
pub mod Instructions
pub mod Kept
pub mod Parts
pub mod Turns
