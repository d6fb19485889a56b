pub mod Found
pub mod Known
pub mod Neighbours
pub mod Pattern
pub mod Renaming
pub mod SureTricks
