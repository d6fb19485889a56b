pub mod Lines
pub mod NextByte
pub mod Reading
pub mod Source
pub mod Writing
