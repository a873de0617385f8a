pub mod NextLocal
pub mod RegionDepth
pub mod RegionLaw
pub mod Regions
pub mod SameRuns
