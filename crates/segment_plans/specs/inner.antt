pub mod Finding
pub mod Pieces
pub mod Spans
