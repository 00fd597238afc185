pub mod Asked
pub mod Choosing
pub mod Knowing
pub mod Laying
pub mod Left
pub mod Looking
pub mod Reading
pub mod Running
