pub mod Played
pub mod Search
