pub mod Calendar
pub mod Moments
pub mod Bounds
pub mod Window
pub mod Examples
