pub mod Knowing
pub mod Left
pub mod Pieces
pub mod Reading
