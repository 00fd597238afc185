pub mod File
pub mod Layer
pub mod Room
pub mod Soundness
