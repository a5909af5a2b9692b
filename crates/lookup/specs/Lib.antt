pub mod Lookup
pub mod Examples
