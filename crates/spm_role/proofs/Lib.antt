mod Setting
mod Faults
mod Taking
mod Between
