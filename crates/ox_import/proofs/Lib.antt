pub mod PlanAnswers
pub mod Determined
