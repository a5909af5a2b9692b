pub mod Planning
pub mod Finished
