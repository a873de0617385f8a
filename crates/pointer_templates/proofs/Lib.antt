pub mod Amounts
pub mod StatementCounts
pub mod Serving
pub mod OperandEffects
pub mod PlainStatements
pub mod PointerEffects
pub mod ReadDwords
pub mod StatementReads
