pub mod Tables
pub mod Kept
pub mod Made
pub mod Faults
pub mod Taken
pub mod Restart
pub mod Reading
