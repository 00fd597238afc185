pub mod Room
pub mod Looked
pub mod Found
pub mod Falls
pub mod Clears
pub mod Takes
pub mod Places
pub mod Dispatch
