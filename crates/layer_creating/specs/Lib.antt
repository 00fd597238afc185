pub mod New
pub mod Says
pub mod Creating
