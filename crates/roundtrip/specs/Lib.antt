pub mod Trip
pub mod Examples
