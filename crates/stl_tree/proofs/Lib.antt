mod AccumulatorCases
pub mod AddressCases
mod CallCases
mod DataBlockCases
pub mod KeptFaults
pub mod RowForms
pub mod RunCases
pub mod Runs
pub mod ShiftForms
