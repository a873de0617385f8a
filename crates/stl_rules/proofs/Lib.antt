mod CallCases
pub mod Components
pub mod Ends
pub mod Equations
mod JumpCases
mod LayoutCases
pub mod Lengths
pub mod Lists
mod NameCases
mod OperandCases
pub mod Scopes
pub mod TypeInduction
mod VerdictCases
