pub use Rattle.movement.proofs as movement_lemmas
pub mod FirstLemmas
pub mod LiveCellsLemmas
pub mod RuleLemmas
pub mod SeatingLemmas
pub mod SeatingTests
