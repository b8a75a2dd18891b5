pub mod Filling
pub mod Grouping
pub mod Packed
pub mod Profiling
pub mod Regions
