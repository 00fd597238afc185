pub mod Cut
pub mod Printed
pub mod Back
pub mod Short
