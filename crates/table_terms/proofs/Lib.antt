pub mod Law2Lemmas
pub mod LetterLemmas
pub mod PairBackLemmas
pub mod PairReadingLemmas
