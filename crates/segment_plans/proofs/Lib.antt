pub mod ArmSteps
pub mod Bare
mod Choices
mod Closing
mod Depth
mod Ends
mod Heads
mod Inside
pub mod Lasts
mod ListEnds
pub mod OnePiece
mod Overs
mod Pieces
mod Plain
pub mod PlanPieces
mod PlanSteps
mod Segments
mod Shallow
pub mod Site
mod Stack
mod Targets
mod Ways
