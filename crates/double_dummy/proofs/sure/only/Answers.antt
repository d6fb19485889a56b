use Rattle.std.proofs.Common.{◌∙◌, ap, inl, inr}
use Rattle.position_patterns.proofs.SetLemmas.{inserted, just_inserted}
use Rattle.double_dummy.proofs.RunLemmas.{none_in}
use Rattle.std.specs.FinSet as set
use Rattle.double_dummy.proofs.sure.only.Goals as goal

pub returns : goal.returns
returns c other = (
  λ held. elim (just_inserted c.new-cards.result c.insert.new.self c.args.card other c.insert.ensures held)
      [ inl is ↦ is | inr before ↦ absurd (none_in c.new-cards.result other c.new-cards.ensures before) ],
  λ is. ap (set.contains c.insert.new.self) is
      ∙ inserted c.new-cards.result c.insert.new.self c.args.card c.insert.ensures,
)
