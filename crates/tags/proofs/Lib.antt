pub mod TagLaws
pub mod AheadLaws
pub mod ValueLaws
pub mod Determined
