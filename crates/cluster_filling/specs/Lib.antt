pub mod Cluster
pub mod Filled
pub mod Filling
pub mod Laying
pub mod Left
pub mod Calls
