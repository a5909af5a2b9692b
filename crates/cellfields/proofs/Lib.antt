pub mod NameLaws
pub mod TextLaws
pub mod Determined
