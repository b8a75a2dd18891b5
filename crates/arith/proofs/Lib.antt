pub mod Negation
pub mod Cases
pub mod Codes
pub mod Sums
pub mod Products
