pub mod Image
pub mod Writing
