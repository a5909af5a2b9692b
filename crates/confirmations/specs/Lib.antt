pub mod Confirmations
pub mod Heard
pub mod Examples
