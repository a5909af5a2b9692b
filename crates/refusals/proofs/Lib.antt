pub mod TextLaws
pub mod WrittenLaws
pub mod Determined
