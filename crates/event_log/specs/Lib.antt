pub mod Plain
pub mod Moment
pub mod Lines
pub mod Logging
