pub mod Merge
pub mod Steps
pub mod Examples
