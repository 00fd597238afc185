pub mod Commits
pub mod Settled
