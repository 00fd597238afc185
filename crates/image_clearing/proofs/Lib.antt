pub mod Spelled
pub mod Reading
pub mod Apart
pub mod Sectors
pub mod Turns
pub mod Steps
pub mod Others
