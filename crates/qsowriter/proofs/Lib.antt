pub mod RecordLaws
pub mod TakenLaws
pub mod CheckLaws
pub mod AnswerLaws
pub mod Determined
