pub mod After
pub mod Bounds
pub mod Filling
pub mod Order
pub mod Row
pub mod Rows
pub mod Whole
