pub mod Pieces
pub mod Targets
pub mod Written
pub mod Steps
