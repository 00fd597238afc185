pub mod Parts
pub mod Turns
pub mod FileSteps
pub mod TextSteps
pub mod Kept
pub mod Opens
