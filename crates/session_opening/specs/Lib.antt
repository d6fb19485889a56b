pub mod Joining
pub mod NewUser
pub mod Opening
pub mod OpeningRefusal
