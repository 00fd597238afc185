pub mod Steps
pub mod Top
