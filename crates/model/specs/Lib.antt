pub mod Flags
pub mod Contact
pub mod Normal
pub mod Answer
pub mod Examples
