pub mod Places
pub mod Beside
pub mod Since
pub mod Whole
pub mod Steps
pub mod Counts
