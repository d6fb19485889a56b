pub mod FormLemmas
pub mod ListLemmas
pub mod LetterLemmas
pub mod MemberLemmas
pub mod TableLemmas
