pub mod Carded
pub mod Steps
pub mod Examples
