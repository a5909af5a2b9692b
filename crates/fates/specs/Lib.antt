pub mod Fated
pub mod Steps
