pub mod Layout
pub mod Pool
pub mod Writing
pub mod Making
pub mod Listing
pub mod Steps
