pub mod Lowered
pub mod UnitNames
pub mod inner
