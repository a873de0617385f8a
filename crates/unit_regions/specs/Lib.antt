pub mod MadeCharts
pub mod MadeLaws
pub mod RegionOf
pub mod UnitCharts
pub mod UnitCounts
pub mod UnitLaws
pub mod UnitRegion
