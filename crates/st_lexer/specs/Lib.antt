pub mod Direct
pub mod Literals
pub mod Pieces
pub mod Spelled
pub mod SpellingLaws
pub mod StTokens
pub mod TokenFacts
pub mod TokenGrammar
