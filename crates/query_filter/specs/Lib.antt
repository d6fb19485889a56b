pub mod Bounds
pub mod Formula
pub mod FormulaCode
pub mod Holds
pub mod Laws
pub mod Limits
pub mod TrickTable
