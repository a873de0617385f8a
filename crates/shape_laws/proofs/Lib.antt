pub mod Counts
pub mod Heads
pub mod Judging
pub mod Loops
pub mod Once
pub mod Segments
pub mod Selecting
mod ShapeCases
pub mod Shapes
pub mod Shortness
mod Standing
pub mod Texts
pub mod Totals
pub mod Work
