pub mod Sizes
pub mod Bytes
pub mod Data
pub mod Changes
