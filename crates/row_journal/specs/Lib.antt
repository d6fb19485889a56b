pub mod Faults
pub mod Leaving
