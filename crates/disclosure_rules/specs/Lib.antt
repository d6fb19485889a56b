pub mod Fact
pub mod LiveCells
pub mod Phase
pub mod Policy
pub mod Seating
