pub mod Summary
pub mod Examples
