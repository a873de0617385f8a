pub mod Graphs
pub mod Reached
pub mod inner
