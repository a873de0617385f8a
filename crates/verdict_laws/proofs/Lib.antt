mod FormalTypes
mod InstanceLaws
mod ChainsEnd
mod CallLaws
mod CodeBlocks
mod DataBlockLaws
mod FormalLaws
mod ProgramLaws
pub mod AcceptedLaws
pub mod JumpLaws
pub mod StageLaws
