use Rattle.std.proofs.Common.{sym, ◌∙◌}
use Rattle.std.proofs.lemmas.Bool.{true≢false}
use Rattle.double_dummy.proofs.search.learnt.Goals as goal
use Rattle.position_patterns.proofs.SetLemmas.{in_first, in_second}

pub returns-then-is_disjoint : goal.returns-then-is_disjoint
returns-then-is_disjoint c = record {
  known = in_first _ _ _ c.union-all.ensures;
  decisive = in_second _ _ _ c.union-all.ensures;
  run = λ one other decides runs _. absurd
      (true≢false (sym runs ∙ c.is_disjoint.ensures.0 c.if-is_disjoint.true one decides));
}

pub returns-else-is_disjoint : goal.returns-else-is_disjoint
returns-else-is_disjoint c = record {
  known = λ card held. in_first _ _ _ c.union.ensures card (in_first _ _ _ c.union-all.ensures card held);
  decisive = λ card held. in_first _ _ _ c.union.ensures card (in_second _ _ _ c.union-all.ensures card held);
  run = λ _ other _ _ runs. in_second _ _ _ c.union.ensures other runs;
}
