pub mod Calls
mod Counts
mod Depths
pub mod Elsif
pub mod Heights
mod Keeping
pub mod Means
pub mod Negations
pub mod Nests
pub mod Rewrites
pub mod Shapes
pub mod Typed
pub mod Whole
