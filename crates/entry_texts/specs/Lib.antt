pub mod EntryTexts
pub mod Kept
