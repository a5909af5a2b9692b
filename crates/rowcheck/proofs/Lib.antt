pub mod FineLaws
pub mod Determined
