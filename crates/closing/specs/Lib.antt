pub mod Phases
pub mod Closed
