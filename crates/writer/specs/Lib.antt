pub mod Rows
pub mod Answer
pub mod Examples
