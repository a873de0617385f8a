pub mod Candidates
pub mod CycleLines
pub mod Cycles
pub mod Followed
pub mod FoundCycle
pub mod Reached
