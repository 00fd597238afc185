pub mod Counts
pub mod Laid
pub mod Medium
pub mod Paths
pub mod Steps
pub mod Survives
mod Calls
