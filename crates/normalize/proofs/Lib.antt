pub mod ClassLaws
pub mod SplitLaws
pub mod TrimLaws
pub mod ModeTheorems
pub mod Meaning
pub mod Determined
