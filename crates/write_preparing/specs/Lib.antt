pub mod Placed
pub mod Taking
pub mod Preparing
pub mod Filled
