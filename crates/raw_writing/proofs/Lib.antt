pub mod Image
pub mod Seen
pub mod Steps
