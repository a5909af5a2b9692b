pub mod ValueLaws
pub mod Near
pub mod Back
pub mod Bits
pub mod Written
pub mod Determined
