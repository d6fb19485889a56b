pub use Rattle.session_state.proofs as session_state_lemmas
pub mod AuditLemmas
pub mod ExposureLemmas
pub mod ExposureTableLemmas
pub mod JournalLemmas
pub mod LastingLemmas
pub mod OnlookerLemmas
pub mod PlacedLemmas
pub mod RunLemmas
pub mod SightLemmas
pub mod SpoilerLemmas
pub mod TouchedLemmas
pub mod UntouchedLemmas
pub mod OwnNumberLemmas
