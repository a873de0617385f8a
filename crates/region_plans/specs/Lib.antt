pub mod Charts
pub mod PlanRegion
pub mod RegionCounts
pub mod RegionLaws
pub mod TextCounts
