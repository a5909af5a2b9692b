pub mod RowLaws
pub mod CheckLaws
pub mod AnswerLaws
pub mod Determined
