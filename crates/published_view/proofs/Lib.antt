pub use Rattle.session_book.proofs as session_book_lemmas
pub mod AgreementLemmas
pub mod AnswerLemmas
pub mod BodyLemmas
pub mod ElementLemmas
pub mod EveryRunLemmas
pub mod ExactLemmas
pub mod HiddenLemmas
pub mod HistoryLemmas
pub mod ListLemmas
pub mod PlaceLemmas
pub mod ShownStateLemmas
pub mod StandingLemmas
pub mod StepLemmas
pub mod ToldLemmas
pub mod TotalLemmas
