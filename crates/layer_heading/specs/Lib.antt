pub mod Heads
pub mod Rebased
pub mod Writing
pub mod Rebasing
pub mod Cleared
pub mod Clearing
