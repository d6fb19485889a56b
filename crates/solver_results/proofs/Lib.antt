pub use Rattle.cards.proofs as cards_lemmas
pub use Rattle.scoring.proofs as scoring_lemmas
pub mod CostsLemmas
