pub mod Determined
pub mod Survives
