pub mod Put
pub mod Sinks
pub mod Writable
