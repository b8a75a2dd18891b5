pub mod Enough
pub mod Examples
pub mod Promises
pub mod Readable
pub mod Sequences
pub mod Shrinking
pub mod Steps
pub mod Wrong
