pub mod Keeping
pub mod PlainKeeping
