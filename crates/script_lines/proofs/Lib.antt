pub mod LineLemmas
pub mod ShortLineLemmas
pub mod NextByteLemmas
