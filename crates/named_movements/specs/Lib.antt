pub mod Howell
pub mod Named
pub mod Words
