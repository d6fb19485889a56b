pub mod Fields
pub mod Roles
pub mod Person
pub mod People
