pub mod ShiftLaw
pub mod ShiftParts
pub mod ShiftTemplates
