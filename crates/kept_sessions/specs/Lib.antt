pub mod Sources
pub mod Kept
pub mod Audited
pub mod Reported
pub mod Faults
