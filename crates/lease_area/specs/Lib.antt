pub mod Record
pub mod Sector
pub mod Move
pub mod Hold
pub mod Attempt
pub mod Noted
pub mod Scan
pub mod WholeScan
