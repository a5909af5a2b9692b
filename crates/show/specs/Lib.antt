pub mod Shown
pub mod Examples
