pub mod LineLaws
pub mod SizeLaws
pub mod Determined
