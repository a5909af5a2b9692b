pub mod AlikeLaws
pub mod WalkLaws
pub mod MarkLaws
pub mod Determined
