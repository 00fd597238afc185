pub mod Record
pub mod NewImage
pub mod Base
pub mod Writing
pub mod Making
pub mod Steps
pub mod Chain
