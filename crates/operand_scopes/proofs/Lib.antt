pub mod Blocks
pub mod Operands
