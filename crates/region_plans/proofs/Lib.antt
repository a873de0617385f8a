pub mod Counting
pub mod Drawn
pub mod Fitting
pub mod Inside
pub mod Levels
pub mod ListNodes
pub mod Shorts
pub mod Texts
