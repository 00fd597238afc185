pub mod Order
pub mod Reading
pub mod Ids
pub mod Steps
pub mod Stable
