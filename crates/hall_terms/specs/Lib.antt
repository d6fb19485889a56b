pub mod Times
pub mod Strangers
pub mod Room
