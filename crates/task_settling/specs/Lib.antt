pub mod Stage
pub mod Settling
pub mod Falls
pub mod Inner
pub mod Knowing
pub mod Steps
pub mod Laws
pub mod Turns
