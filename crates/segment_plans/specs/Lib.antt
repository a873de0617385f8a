pub mod Arms
pub mod Counts
pub mod Known
pub mod Planned
pub mod inner
