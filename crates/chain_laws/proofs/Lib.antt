pub mod Held
pub mod Mixed
pub mod Goes
pub mod Outcomes
