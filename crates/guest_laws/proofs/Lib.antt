pub mod Lower
pub mod Paths
pub mod Writes
