pub mod Blocks
pub mod Shapes
