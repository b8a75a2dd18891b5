pub mod Building
pub mod Chosen
pub mod Counting
pub mod Order
pub mod Placing
pub mod Totals
