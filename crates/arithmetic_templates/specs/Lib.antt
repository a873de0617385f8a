pub mod ArithmeticLaw
pub mod Calculations
pub mod Comparisons
pub mod Numbers
