pub mod Result
pub mod Play
pub mod Command
