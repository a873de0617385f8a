pub mod Lengths
pub mod Levels
pub mod Structures
pub mod TextShape
pub mod inner
