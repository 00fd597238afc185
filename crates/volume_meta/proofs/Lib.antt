pub mod Joined
pub mod Back
