pub mod BandLaws
pub mod NormalMeaning
pub mod MappingMeaning
pub mod MappedFlags
pub mod NormalKept
