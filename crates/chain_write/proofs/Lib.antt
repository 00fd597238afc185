pub mod AllOpen
