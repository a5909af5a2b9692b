pub mod Search
pub mod Steps
pub mod Examples
