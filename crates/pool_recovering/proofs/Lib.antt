pub mod Told
pub mod States
pub mod Left
pub mod Lists
pub mod Settles
pub mod Stable
pub mod Turns
