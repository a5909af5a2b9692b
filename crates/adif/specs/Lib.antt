pub mod Records
pub mod Grammar
pub mod Reading
pub mod Told
pub mod Limits
pub mod Theorems
pub mod Examples
