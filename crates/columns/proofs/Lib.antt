pub mod LaidLaws
pub mod ColumnLaws
pub mod Determined
