pub mod FinishLaws
pub mod ResultLaws
pub mod AnswerLaws
pub mod Determined
