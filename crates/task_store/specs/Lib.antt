pub mod Parts
pub mod Undo
pub mod Values
pub mod TaskText
pub mod ReadTask
pub mod Shown
