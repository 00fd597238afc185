pub mod Linking
pub mod Preparing
pub mod Room
