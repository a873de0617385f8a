pub mod EndLaws
pub mod PlanLaws
pub mod Plans
pub mod Splitting
