pub mod TaskFile
pub mod Read
pub mod Write
pub mod Remove
