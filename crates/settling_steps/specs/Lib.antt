pub mod Names
pub mod Leftovers
pub mod Lengthening
