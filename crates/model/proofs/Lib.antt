pub mod PlaceLaws
pub mod Determined
