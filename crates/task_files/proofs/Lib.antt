pub mod Lives
pub mod Calls
mod Found
mod Steps
