pub mod RowLaws
pub mod MergeLaws
pub mod Determined
