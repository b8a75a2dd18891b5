pub mod Counting
pub mod FirstUsing
pub mod Gathering
pub mod Renumbering
pub mod Sharing
pub mod Starting
