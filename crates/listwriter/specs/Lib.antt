pub mod Append
pub mod Parts
pub mod Headings
pub mod Examples
