pub mod StatusBits
pub mod Results
pub mod Flags
pub mod StatusLaws
