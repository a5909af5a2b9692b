pub mod WalkLaws
pub mod LinkLaws
pub mod Determined
