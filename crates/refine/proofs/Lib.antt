pub mod Apart
pub mod Coarsening
pub mod Known
pub mod Listed
pub mod Refined
pub mod Repeating
pub mod Splitting
