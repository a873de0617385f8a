pub mod Operands
pub mod Rules
