pub mod Values
pub mod Read
pub mod Shown
pub mod Text
pub mod Valid
