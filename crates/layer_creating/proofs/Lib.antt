pub mod Lengths
pub mod Headers
pub mod Numbers
pub mod Sound
pub mod New
pub mod Steps
pub mod Stages
