pub mod LineLaws
pub mod PlanLaws
pub mod Determined
