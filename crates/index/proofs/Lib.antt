pub mod RowLaws
pub mod ContactLaws
pub mod Agree
pub mod Determined
