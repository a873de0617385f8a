pub mod PointerLaw
pub mod Pointers
