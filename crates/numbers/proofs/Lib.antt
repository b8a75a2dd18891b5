pub mod Groups
pub mod Causes
