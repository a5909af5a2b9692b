pub mod Row
pub mod Filled
pub mod Walked
pub mod Examples
