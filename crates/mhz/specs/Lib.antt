pub mod Digits
pub mod Number
pub mod Grammar
pub mod Reading
pub mod Steps
pub mod Writing
pub mod Theorems
pub mod Examples
