pub mod AcceptedLemmas
pub mod RowLemmas
pub mod ReadLemmas
pub mod GroupLemmas
