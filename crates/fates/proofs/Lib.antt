pub mod StepLaws
pub mod SettleLaws
pub mod Determined
