pub mod Length
pub mod Reach
