pub mod Station
pub mod Answer
pub mod Examples
