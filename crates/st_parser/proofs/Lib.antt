mod JudgedTexts
pub mod OneReading
mod SomeReading
pub mod TextReads
mod Texts
