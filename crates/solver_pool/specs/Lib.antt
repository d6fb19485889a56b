pub mod Collected
pub mod Done
