pub mod Records
pub mod Checks
pub mod Found
pub mod Paths
pub mod Rewriting
pub mod Settling
pub mod Shown
