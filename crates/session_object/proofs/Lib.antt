pub mod AskedLemmas
pub mod ExclusionLemmas
pub mod NoticeLemmas
pub mod ReadingLemmas
pub mod SessionLemmas
