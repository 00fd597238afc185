pub mod Text
pub mod Replace
pub mod Read
