pub mod Tested
pub mod TableLaws
pub mod EntryLaws
pub mod KeyLaws
pub mod PlaceLaws
pub mod Determined
