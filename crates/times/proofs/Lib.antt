pub mod YearLaws
pub mod MonthLaws
pub mod MomentLaws
pub mod WindowLaws
pub mod Rising
pub mod Determined
