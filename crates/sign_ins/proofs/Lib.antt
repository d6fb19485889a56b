pub mod LetterLemmas
pub mod TokenLemmas
pub mod WordLemmas
