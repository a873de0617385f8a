mod Beside
mod BitEffects
mod CallRanges
mod InstructionEffects
mod JumpCases
mod JumpEffects
mod LawCases
mod Located
mod LocatedCases
mod NumberEffects
pub mod RangeNumbers
pub mod RangeEffects
mod WordEffects
