pub mod Orders
pub mod Tidy
pub mod Long
