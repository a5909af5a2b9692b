pub mod Table
pub mod Bands
pub mod Modes
pub mod Place
pub mod Examples
