pub mod Layout
pub mod Listing
