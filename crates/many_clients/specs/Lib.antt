pub mod Talker
pub mod Turns
pub mod Hall
