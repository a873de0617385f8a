pub mod Counting
pub mod ShapeCases
