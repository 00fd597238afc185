pub mod Alike
pub mod Covers
pub mod Pieces
