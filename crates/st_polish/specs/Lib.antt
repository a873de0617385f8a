pub mod Names
pub mod SameRuns
pub mod Symbols
