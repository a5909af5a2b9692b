pub mod Cells
pub mod Examples
