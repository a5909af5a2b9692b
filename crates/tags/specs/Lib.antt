pub mod Tags
pub mod Ahead
pub mod Examples
