pub mod NormalizingAnswers
pub mod Determined
