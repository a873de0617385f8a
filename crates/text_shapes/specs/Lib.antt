pub mod Allowed
pub mod IsShaped
pub mod NodeCounts
pub mod Shape
pub mod ShapeLaws
