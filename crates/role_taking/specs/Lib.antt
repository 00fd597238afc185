pub mod Asked
pub mod Marks
pub mod Knows
pub mod Taking
pub mod Laws
