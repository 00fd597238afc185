pub mod Texts
pub mod Sectors
pub mod Passing
pub mod Domains
pub mod Leading
pub mod Steps
pub mod Listing
pub mod Stable
