pub mod Holding
pub mod Writer
