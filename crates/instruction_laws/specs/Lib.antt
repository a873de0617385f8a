pub mod Agreement
pub mod InstructionLaws
pub mod Located
pub mod Ranges
