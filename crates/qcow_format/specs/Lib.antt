pub mod Numbers
pub mod Bytes
pub mod Entry
pub mod Extension
pub mod Name
pub mod Format
pub mod Header
pub mod Written
