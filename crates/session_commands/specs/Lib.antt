pub mod CellState
pub mod Command
pub mod Refusal
pub mod Row
pub mod Told
