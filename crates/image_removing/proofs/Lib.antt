pub mod Orders
pub mod Leaves
pub mod Kept
