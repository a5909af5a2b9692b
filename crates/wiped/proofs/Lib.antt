pub mod KeptLaws
pub mod Determined
