pub mod Fields
pub mod Rows
pub mod Short
pub mod Walks
