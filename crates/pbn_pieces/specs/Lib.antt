pub mod Bytes
pub mod Cutting
pub mod Kinds
pub mod Pieces
pub mod Told
