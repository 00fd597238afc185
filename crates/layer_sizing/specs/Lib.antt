pub mod Sized
pub mod Blanks
pub mod Stages
pub mod Sizing
