pub mod CountLaws
pub mod FateLaws
pub mod Determined
