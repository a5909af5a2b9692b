pub mod Headers
pub mod Answer
pub mod Examples
