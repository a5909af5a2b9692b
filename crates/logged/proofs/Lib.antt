pub mod FoundLaws
pub mod LoggedLaws
pub mod Determined
