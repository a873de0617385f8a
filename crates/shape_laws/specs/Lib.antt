pub mod EachOnce
pub mod Lengths
pub mod MadeShape
