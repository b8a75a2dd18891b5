pub mod Groups
pub mod Keys
pub mod Packing
pub mod Steps
