pub use Rattle.disclosure_rules.proofs as disclosure_rules_lemmas
pub use Rattle.disclosure_rules.proofs.movement_lemmas as movement_lemmas
pub use Rattle.session_commands.proofs.cards_lemmas as cards_lemmas
pub use Rattle.session_commands.proofs.scoring_lemmas as scoring_lemmas
pub mod AccountCauseLemmas
pub mod AccountLemmas
pub mod CompleteLemmas
pub mod EditionLemmas
pub mod EntryPlacedLemmas
pub mod HindranceLemmas
pub mod LiveLemmas
pub mod NameLemmas
pub mod NumberRefusalLemmas
pub mod OwnNumberLemmas
pub mod PartLemmas
pub mod PlacedLemmas
pub mod ReaderLemmas
pub mod RefusalLemmas
pub mod ScheduleLemmas
pub mod SeatCauseLemmas
pub mod SeatLemmas
pub mod ToldLemmas
