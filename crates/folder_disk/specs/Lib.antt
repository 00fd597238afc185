pub mod Path
pub mod Disk
pub mod Changed
