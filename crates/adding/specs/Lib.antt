pub mod Keys
pub mod Named
pub mod Finals
pub mod Rows
pub mod Collapsing
pub mod Tables
