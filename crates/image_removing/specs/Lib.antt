pub mod Removing
pub mod Falls
pub mod Steps
