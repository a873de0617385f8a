pub mod ProperLaw
pub mod TextLaws
pub mod UsesNext
