pub mod Values
pub mod Words
pub mod Checksum
pub mod Read
pub mod Text
pub mod Shown
pub mod Valid
