use Rattle.std.proofs.Common.{ap, sym, ◌∙◌}
use Rattle.std.proofs.lemmas.Bool.{and_parts, not-true}
use Rattle.position_patterns.proofs.SetLemmas.{in_difference}
use Rattle.std.specs.FinSet as set
use Rattle.double_dummy.proofs.RunLemmas.{none_in}
use Rattle.double_dummy.proofs.run.spoken_for.Goals as goal

pub returns-then-is_empty : goal.returns-then-is_empty
returns-then-is_empty c other held = absurd (none_in c.new.result other c.new.ensures held)

pub returns-then-contains : goal.returns-then-contains
returns-then-contains c other held =
    absurd (none_in c.new-then-contains.result other c.new-then-contains.ensures held)

pub returns : goal.returns
returns c other held =
    let parts = and_parts _ _ (sym (in_difference _ _ _ c.difference.ensures other) ∙ held) in
    record {
      first = c.requires.legal;
      second = ap (λ s. set.contains s other) (sym c.requires.playable) ∙ c.unparted.ensures.among other parts.0;
      suit = c.unparted.ensures.suit other parts.0;
      first_out = sym c.contains.ensures ∙ c.if-contains.false;
      second_out = not-true _ parts.1;
      none = λ between parting. c.unparted.ensures.free other between parts.0 parting;
    }
