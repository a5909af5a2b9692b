pub mod Value
pub mod Whole
pub mod Theorems
pub mod Examples
