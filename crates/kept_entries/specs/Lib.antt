pub mod Grouping
pub mod KeptRows
pub mod RowTexts
