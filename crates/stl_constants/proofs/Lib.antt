pub mod ConstantLaws
pub mod ListReading
pub mod Reading
pub mod Tables
