pub mod TableLaws
pub mod Carried
pub mod Determined
