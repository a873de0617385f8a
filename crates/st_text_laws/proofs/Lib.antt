mod CanonicalCases
pub mod Common
mod CutExpressions
mod CutLiterals
mod CutStatements
mod CutWords
mod Cuts
pub mod Levels
pub mod SameNames
pub mod TextReads
pub mod BlockForms
pub mod Chains
pub mod DeclaredGlobals
pub mod ExpressionForms
pub mod Good
pub mod Invoked
pub mod Keys
pub mod NameScope
pub mod Spells
pub mod StatementForms
pub mod UnitForms
pub mod ValueForms
pub mod Variables
pub mod Whole
pub mod ReadBodies
pub mod ReadExpressions
pub mod ReadGlobals
pub mod ReadProper
pub mod Sees
pub mod ReadStatements
pub mod ReadUnits
pub mod ReadValues
pub mod Worded
