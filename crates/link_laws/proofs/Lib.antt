pub mod Words
pub mod Rows
pub mod Many
pub mod Filled
pub mod Made
