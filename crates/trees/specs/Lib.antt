pub mod Read
pub mod Steps
pub mod Figures
pub mod Forests
pub mod Finished
pub mod Written
pub mod Subtrees
pub mod Examples
