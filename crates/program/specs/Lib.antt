pub mod Script
pub mod FirstLine
pub mod Writes
pub mod Standing
pub mod Status
pub mod Told
