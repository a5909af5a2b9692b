pub mod Record
pub mod Writing
pub mod Steps
pub mod Examples
