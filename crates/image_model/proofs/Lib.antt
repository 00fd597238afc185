pub mod Faults
pub mod Longer
pub mod Rooms
