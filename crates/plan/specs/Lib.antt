pub mod Entry
pub mod Fates
pub mod Confirmed
pub mod Cards
pub mod Plan
pub mod Examples
pub mod Shown
