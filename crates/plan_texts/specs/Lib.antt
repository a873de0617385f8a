pub mod PlanTexts
pub mod inner
