pub mod Answers
pub mod Picking
pub mod Wrong
pub mod Readings
