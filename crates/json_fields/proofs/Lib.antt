pub mod FormLemmas
pub mod FormulaLemmas
pub mod LetterLemmas
pub mod ListLemmas
pub mod MemberLemmas
pub mod ReadingLemmas
pub mod TableLemmas
pub mod UserLemmas
