pub mod BandTheorems
pub mod Determined
