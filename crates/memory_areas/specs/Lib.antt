pub mod Access
pub mod AreaLaws
pub mod Areas
pub mod End
pub mod Memory
pub mod OutsideActuals
pub mod Pointers
pub mod inner
