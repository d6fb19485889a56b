pub mod AskedSession
pub mod Members
pub mod SessionData
pub mod Writable
