pub mod Counting
pub mod Prefixes
