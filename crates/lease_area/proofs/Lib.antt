pub mod Fields
pub mod ByExchange
pub mod Moves
pub mod Noting
pub mod First
pub mod Least
pub mod WholeScan
pub mod Surviving
