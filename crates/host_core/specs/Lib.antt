pub mod Memory
pub mod Listed
pub mod State
pub mod Knows
pub mod Bars
pub mod Steps
pub mod Downs
pub mod Laws
