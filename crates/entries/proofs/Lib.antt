pub mod ReadFit
pub mod WalkLaws
pub mod JudgeLaws
pub mod RowLaws
pub mod FilledLaws
pub mod NumberLaws
pub mod Determined
