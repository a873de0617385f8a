pub mod Answering
pub mod DemoRuns
pub mod Finishing
pub mod InputsRead
