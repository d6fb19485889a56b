pub mod MembersLemmas
pub mod DepthLemmas
pub mod ReadingLemmas
pub mod TextLemmas
