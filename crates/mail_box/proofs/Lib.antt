pub mod Chunks
pub mod Fields
pub mod Scan
pub mod Seal
