mod CallCases
mod OperandCases
mod PointerCases
