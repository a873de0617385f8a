mod BcdCases
pub mod BcdRound
pub mod Digits
