pub mod Copies
pub mod NoSession
pub mod Publishing
pub mod Reading
