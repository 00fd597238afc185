pub mod Adding
pub mod Counts
pub mod Meeting
pub mod Needs
pub mod Sectors
pub mod Tables
pub mod Targets
