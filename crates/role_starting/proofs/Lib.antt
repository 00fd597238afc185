pub mod Left
pub mod Takes
pub mod Recovers
pub mod Stable
