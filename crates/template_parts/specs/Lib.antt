pub mod Builders
pub mod DoesInstruction
pub mod Fetching
pub mod Nodes
pub mod Pointing
pub mod Reading
pub mod Related
pub mod Templates
