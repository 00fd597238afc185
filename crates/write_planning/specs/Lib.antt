pub mod Linked
pub mod Part
pub mod Plan
pub mod Span
