pub mod WantedLaws
pub mod Determined
