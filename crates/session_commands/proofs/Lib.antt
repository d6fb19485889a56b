pub use Rattle.solver_results.proofs.cards_lemmas as cards_lemmas
pub use Rattle.solver_results.proofs.scoring_lemmas as scoring_lemmas
