pub mod Recovering
pub mod Knowing
pub mod Steps
pub mod Turns
pub mod Laws
