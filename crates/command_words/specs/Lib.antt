pub mod CallWord
pub mod Command
