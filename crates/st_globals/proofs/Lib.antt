pub mod Adding
pub mod ArmParts
pub mod Chosen
mod GlobalCases
pub mod InPlace
pub mod Kept
pub mod Made
pub mod Marking
pub mod NameSets
pub mod NameTables
pub mod Numbers
pub mod Places
pub mod Runs
pub mod Types
pub mod VariablesKept
pub mod Whole
pub mod With
