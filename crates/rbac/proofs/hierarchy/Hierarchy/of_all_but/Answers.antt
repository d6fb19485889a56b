use Rattle.std.proofs.Common.{sym, ◌∙◌, arith}
use Rattle.rbac.proofs.HierarchyLemmas.{closure_with, closure_left_out}
use Rattle.rbac.proofs.hierarchy.Hierarchy.of_all_but.Goals as goal
use Rattle.rbac.proofs.hierarchy.Hierarchy.of_all_but.Goals.{then-ne, else-ne}

pub loop-pair-preserved : goal.loop-pair-preserved
loop-pair-preserved c =
    elim c.if-ne.branch [
      | then-ne w ↦
          rw w.hierarchy-is
          (closure_with c.args.pairs.now c.args.left_out c.loop-pair.pair-index _ c.loop-pair.hierarchy.reached
          w.with-hierarchy.result.reached (omega arith) (sym c.ne.ensures ∙ w.if-ne.true) c.loop-pair.invariant
          w.with-hierarchy.ensures)
      | else-ne w ↦
          rw w.hierarchy-is
          (closure_left_out c.args.pairs.now c.args.left_out c.loop-pair.pair-index _ c.loop-pair.hierarchy.reached
          (omega arith) (sym c.ne.ensures ∙ w.if-ne.false) c.loop-pair.invariant)
    ]
