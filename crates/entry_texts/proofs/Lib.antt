pub mod ConfirmLemmas
pub mod EntryLemmas
pub mod ReadingLemmas
pub mod UserLemmas
