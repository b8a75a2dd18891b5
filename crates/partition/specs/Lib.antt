pub mod Filling
pub mod Members
pub mod Numbering
pub mod Parts
