pub mod Heads
pub mod NextOf
pub mod Shapes
pub mod inner
