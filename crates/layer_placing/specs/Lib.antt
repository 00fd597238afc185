pub mod Chosen
pub mod Knows
pub mod Placing
pub mod Stages
