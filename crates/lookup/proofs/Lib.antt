pub mod LookLaws
pub mod Determined
