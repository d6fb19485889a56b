use Rattle.std.proofs.Common.{◌∙◌, ap, sym}
use Rattle.std.proofs.lemmas.Bool.{and_from, false_from_ne_true, not_from_false}
use Rattle.std.specs.FinSet as set
use Rattle.double_dummy.proofs.run.others.Goals as goal
use Rattle.cards.specs.Play.{to_play}
use Rattle.position_patterns.proofs.SetLemmas.{in_difference}

pub returns : goal.returns
returns c ownership card owned tight live ne =
    in_difference _ _ _ c.difference.ensures card ∙ and_from _ _ (c.requires.live card (tight card live))
    (not_from_false _ (false_from_ne_true _
    (λ held. ne (owned.held (to_play c.args.position.now) card (ap (λ s. set.contains s card) (sym c.requires.mine)
    ∙ held)).1)))
