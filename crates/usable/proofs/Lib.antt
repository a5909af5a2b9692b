pub mod ReasonLaws
pub mod Determined
