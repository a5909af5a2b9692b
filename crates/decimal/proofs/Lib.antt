pub mod DecimalLaws
pub mod SignLaws
pub mod ReadBack
pub mod Determined
