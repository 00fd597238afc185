pub mod Way
pub mod Knowing
pub mod Writing
pub mod Left
pub mod Guest
