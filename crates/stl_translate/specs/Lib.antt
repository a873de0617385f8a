pub mod Named
pub mod Same
pub mod Shape
