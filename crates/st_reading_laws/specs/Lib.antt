pub mod SyntaxLaws
pub mod TypedLaws
pub mod inner
