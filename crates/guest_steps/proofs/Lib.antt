pub mod Lends
pub mod Links
pub mod Rooms
