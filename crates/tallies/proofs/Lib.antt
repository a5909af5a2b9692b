pub mod TallyLaws
pub mod Determined
