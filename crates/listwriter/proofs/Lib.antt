pub mod ReadBack
pub mod PartLaws
pub mod HeadingLaws
pub mod AppendLaws
pub mod Appending
pub mod Headings
pub mod Determined
