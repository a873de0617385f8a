pub mod Beginnings
pub mod Making
pub mod Reaching
pub mod Spans
