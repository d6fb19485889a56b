use Rattle.std.proofs.Common.{[], ◌∷◌, ◌∙◌, ap, inr, sym}
use Rattle.std.proofs.lemmas.Bool.{not-false, true≢false}
use Rattle.table_terms.specs.Strain.{trump_of}
use Rattle.double_dummy.proofs.SureLemmas.{follows, no_trumps}
use Rattle.double_dummy_laws.proofs.HandLemmas.{legal_follows}
use Rattle.double_dummy.proofs.sure.may_ruff.Goals as goal

pub returns-then-not-is_empty : goal.returns-then-not-is_empty
returns-then-not-is_empty c _ =
    follows c.args.position.now c.args.led c.args.hand c.of_suit.result c.of_suit.ensures
    (λ e. true≢false (sym (c.is_empty.ensures.1 e) ∙ c.if-not-is_empty.true))

pub returns-then-ne : goal.returns-then-ne
returns-then-ne c lacks card may =
    inr (no_trumps (trump_of c.args.position.now.strain) c.in-Some.trump c.args.hand c.of_suit-then-ne.result
    (ap trump_of (sym c.strain.ensures) ∙ sym c.trump.ensures ∙ c.in-Some.is) c.of_suit-then-ne.ensures
    (c.is_empty-then-ne.ensures.0 (not-false _ lacks)) card
    (legal_follows c.args.hand (c.args.led ∷ []) card may).0)
