pub mod Stage
pub mod Said
pub mod Cluster
pub mod Left
pub mod Filling
