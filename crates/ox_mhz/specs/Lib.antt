pub mod Frequencies
pub mod Theorems
