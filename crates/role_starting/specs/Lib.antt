pub mod Starting
pub mod Marks
pub mod Knowing
pub mod Steps
pub mod Laws
