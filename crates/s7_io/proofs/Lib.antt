pub mod SourceLaws
pub mod SinkLaws
