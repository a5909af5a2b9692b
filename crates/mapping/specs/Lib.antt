pub mod Contact
pub mod Mapping
pub mod Examples
