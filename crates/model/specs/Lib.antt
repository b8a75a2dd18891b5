pub mod Table
pub mod Tree
