mod Files
pub mod Unsynced
