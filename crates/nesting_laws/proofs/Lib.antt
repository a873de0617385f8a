pub mod Arms
pub mod Cases
pub mod Contexts
pub mod Crossings
pub mod Ends
pub mod Exits
pub mod Facts
pub mod ListArms
pub mod ListPlans
pub mod Lists
pub mod Nests
pub mod OnePlan
pub mod Parts
mod PlanCases
pub mod Planned
pub mod Plannings
pub mod Reaching
pub mod Spans
