pub mod Classes
pub mod Kept
pub mod Places
pub mod Totals
