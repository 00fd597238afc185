pub mod Names
pub mod Kept
pub mod Stages
pub mod Knowing
pub mod Steps
pub mod Gathering
