pub mod LaidLaws
pub mod CloseLaws
pub mod TurnLaws
pub mod GoingLaws
pub mod ReadLaws
pub mod Determined
