pub mod TextLaws
pub mod SizeLaws
pub mod AnswerLaws
pub mod LongTexts
pub mod Determined
