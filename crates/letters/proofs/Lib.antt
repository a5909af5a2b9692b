pub mod CapitalLaws
pub mod SameLaws
pub mod FoldLaws
pub mod OrderLaws
pub mod SpaceLaws
pub mod Determined
