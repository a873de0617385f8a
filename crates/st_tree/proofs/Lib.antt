mod CallCases
pub mod CalledMost
pub mod CanonEquations
pub mod Common
pub mod Equations
pub mod FittingCalls
pub mod FittingMemory
mod FittingCases
pub mod FittingStart
pub mod FittingValues
mod GraphCases
pub mod Induction
pub mod Locals
mod NameWords
mod OperatorCases
pub mod PartEquations
mod PartCases
mod ProperCases
mod RunCases
mod SpellingCases
pub mod TwoParts
pub mod TypedParts
pub mod TypesAgree
pub mod TypingEquations
pub mod Units
