pub mod Firsts
pub mod Cleared
