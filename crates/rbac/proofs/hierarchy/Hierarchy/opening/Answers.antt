use Rattle.std.proofs.Common.{take, sym, subst, ◌∙◌, arith}
use Rattle.std.proofs.lemmas.List.{take_more, take_all}
use Rattle.rbac.specs.Hierarchy.{IsClosure}
use Rattle.rbac.proofs.HierarchyLemmas.{closure_push}
use Rattle.rbac.proofs.hierarchy.Hierarchy.opening.Goals as goal

pub loop-pair-preserved : goal.loop-pair-preserved
loop-pair-preserved c =
    subst (λ pairs. IsClosure pairs c.with-hierarchy.result.reached)
    (sym (take_more c.opening-pair-items.result.now c.loop-pair.pair-index _ (omega arith)))
    (closure_push (take c.loop-pair.pair-index c.opening-pair-items.result.now) c.loop-pair.hierarchy.reached
    c.with-hierarchy.result.reached _ c.loop-pair.invariant c.with-hierarchy.ensures)

pub returns : goal.returns
returns c =
    subst (λ pairs. IsClosure pairs c.loop-pair.hierarchy.reached)
    (take_all c.loop-pair.pair-index c.opening-pair-items.result.now (omega arith) ∙ c.opening-pair-items.ensures) c.loop-pair.invariant
