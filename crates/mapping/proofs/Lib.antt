pub mod RowLaws
pub mod AnswerLaws
pub mod Determined
