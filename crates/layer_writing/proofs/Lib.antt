pub mod Counts
pub mod Known
pub mod OfLayers
pub mod Likes
pub mod Others
pub mod Sectors
pub mod Writes
