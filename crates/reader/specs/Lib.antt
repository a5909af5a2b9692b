pub mod Table
pub mod Stands
pub mod Examples
