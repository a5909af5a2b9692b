pub mod PartLaws
pub mod InsertLaws
pub mod TableLaws
pub mod Determined
