pub mod PhaseLaws
pub mod CloseLaws
pub mod Determined
