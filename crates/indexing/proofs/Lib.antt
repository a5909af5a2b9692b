pub mod FillLaws
pub mod ChainLaws
pub mod BuildLaws
pub mod Determined
