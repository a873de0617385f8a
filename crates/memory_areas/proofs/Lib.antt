mod AccessCases
mod Accesses
mod AreaCases
pub mod AreaLaws
mod Bits
mod Blocks
mod Bytes
mod DataBlocks
mod Fresh
mod ReplacedBytes
pub mod SameFaults
