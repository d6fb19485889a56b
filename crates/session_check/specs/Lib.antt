pub mod Lines
pub mod Users
pub mod Summaries
pub mod Places
pub mod Members
