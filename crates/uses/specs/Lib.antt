pub mod Lists
pub mod Numbers
pub mod Places
pub mod Steps
pub mod Theory
pub mod Tables
