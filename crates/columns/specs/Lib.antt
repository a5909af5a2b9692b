pub mod Columns
pub mod Examples
