pub mod PutLaws
pub mod DigitLaws
pub mod Determined
