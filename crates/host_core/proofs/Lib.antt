pub mod Barred
pub mod Stopping
pub mod Knowing
pub mod Beginning
pub mod Filtered
pub mod Listed
pub mod Listing
pub mod Clearing
