pub mod ConditionLaws
pub mod Depth
pub mod Elsif
pub mod Kept
pub mod NoLarger
pub mod SameRuns
pub mod inner
