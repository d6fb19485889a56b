pub mod TextLemmas
pub mod UserLemmas
pub mod CheckLemmas
pub mod MemberLemmas
