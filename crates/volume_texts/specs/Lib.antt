pub mod Legible
pub mod Write
