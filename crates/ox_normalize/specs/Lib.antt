pub mod Normalizing
