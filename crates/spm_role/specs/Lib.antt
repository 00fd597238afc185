pub mod Lists
pub mod Spm
pub mod Master
pub mod List
pub mod Look
pub mod Asked
pub mod Start
pub mod History
