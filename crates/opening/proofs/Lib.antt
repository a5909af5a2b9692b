pub mod OpenLaws
pub mod Determined
