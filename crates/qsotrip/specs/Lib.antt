pub mod Rewritten
pub mod Theorems
pub mod Examples
