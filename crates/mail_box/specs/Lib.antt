pub mod Slots
pub mod Lending
pub mod Spelling
