pub mod ReadyLaws
pub mod FindLaws
pub mod Determined
