pub mod NumberData
pub mod ResultData
pub mod FoundData
pub mod Values
pub mod CommandPart
pub mod CommandData
pub mod Writable
