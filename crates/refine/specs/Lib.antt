pub mod Sides
pub mod Splits
