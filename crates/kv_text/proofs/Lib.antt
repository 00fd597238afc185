pub mod Steps
pub mod Line
pub mod ReadBack
pub mod ValuesBack
pub mod OneLine
