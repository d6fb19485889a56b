use Rattle.std.proofs.Common.{sym, ◌∙◌, arith}
use Rattle.session_roles.specs.Role.{union_of}
use Rattle.rbac.proofs.HierarchyLemmas.{reached_none, reached_more, reached_same}
use Rattle.rbac.proofs.hierarchy.Hierarchy.reached_from.Goals as goal
use Rattle.rbac.proofs.hierarchy.Hierarchy.reached_from.Goals.{then-has, else-has}

pub loop-senior-init : goal.loop-senior-init
loop-senior-init c = c.new-roles.ensures ∙ sym (reached_none c.args.self.now.reached c.args.assigned)

pub loop-senior-preserved : goal.loop-senior-preserved
loop-senior-preserved c =
    elim c.if-has.branch [
      | then-has w ↦
          w.roles-is ∙ w.union-roles.ensures ∙ (λ i. union_of (c.loop-senior.invariant i) (w.below.ensures i))
          ∙ reached_more c.args.self.now.reached c.args.assigned c.loop-senior.senior-index _ (omega arith)
          (sym c.has.ensures.has ∙ w.if-has.true)
      | else-has w ↦
          w.roles-is ∙ c.loop-senior.invariant
          ∙ reached_same c.args.self.now.reached c.args.assigned c.loop-senior.senior-index _ (omega arith)
          (sym c.has.ensures.has ∙ w.if-has.false)
    ]
