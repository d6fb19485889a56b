pub mod Batch
pub mod Kept
pub mod Places
pub mod Reentry
