pub mod Capitals
pub mod Same
pub mod Order
pub mod Examples
