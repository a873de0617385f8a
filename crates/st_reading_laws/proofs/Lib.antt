mod Bare
mod Drive
mod Exact
pub mod JudgedSyntax
mod Kept
mod OneGrammar
pub mod OneSyntax
mod Precedence
pub mod SomeSyntax
mod SyntaxCases
mod Whole
pub mod Actions
pub mod Apart
pub mod BlockSizes
pub mod Bounds
pub mod Called
pub mod Declared
pub mod DeclaredNames
pub mod DeclaredTree
pub mod EntryKeys
pub mod Keyed
pub mod Labels
pub mod Lists
pub mod OneAnswer
pub mod Operands
pub mod Parts
pub mod PlainNumbers
pub mod PlainTexts
pub mod ReadEquations
pub mod Redeclared
