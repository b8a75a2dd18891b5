pub mod Entries
pub mod Kept
pub mod Packing
pub mod Sums
pub mod Sorting
