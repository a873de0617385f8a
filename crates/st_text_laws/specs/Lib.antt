pub mod Canonical
pub mod CanonicalLaws
pub mod Spelled
pub mod CanonicalForms
pub mod ReadProper
