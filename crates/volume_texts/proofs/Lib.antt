pub mod NoZero
pub mod ReadBack
pub mod Steps
