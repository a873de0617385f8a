pub mod Pieces
pub mod Statements
