pub mod Fresh
pub mod Knowing
pub mod Left
pub mod Looking
pub mod Mapping
pub mod Opening
pub mod Seen
pub mod Stages
