pub mod WriteAnswers
pub mod Determined
