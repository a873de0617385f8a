pub mod CallPieces
mod CallCases
