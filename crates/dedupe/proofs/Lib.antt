pub mod KeyLaws
pub mod PartLaws
pub mod ViewLaws
pub mod MomentLaws
pub mod Determined
