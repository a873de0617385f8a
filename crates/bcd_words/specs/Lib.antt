pub mod Bcd
pub mod BcdLaws
