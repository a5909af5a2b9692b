pub mod Classes
pub mod Modes
pub mod Normal
pub mod Examples
