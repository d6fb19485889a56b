use Rattle.std.proofs.Common.{◌+◌, [], ◌∷◌, ◌++◌, List, map, sym, ap, ◌∙◌, append_assoc}
use Rattle.scoring.specs.declared.standing.Standing.{Standing}
use Rattle.standings.specs.Ranking.{pair_on, pairs_on}
use Rattle.class_views.specs.Totals.{total_for}
use Rattle.class_views.proofs.QueryLemmas.{pairs_and_one, pairs_and_none, no_pairs_yet}
use Rattle.class_views.proofs.class_views.add_side.Goals as goal
use Rattle.class_views.proofs.class_views.add_side.Goals.{then-has_pair+in_ok-push, else-has_pair}

pub loop-before-init : goal.loop-before-init
loop-before-init c =
    no_pairs_yet (total_for c.args.views.now c.args.class) c.args.movement.now c.args.side c.args.standings.now.items

pub loop-before-preserved : goal.loop-before-preserved
loop-before-preserved c =
    let f = total_for c.args.views.now c.args.class in
    let section = c.args.movement.now in
    let side = c.args.side in
    let l = c.loop-before in
    let items = c.args.standings.now.items in
    elim c.if-has_pair.branch [
      | then-has_pair+in_ok-push w ↦
          (λ i. (w.standings-is i).items) ∙ (w.in_ok-push.ensures.items
          ∙ ((λ i. l.invariant i ++ w.total.ensures i ∷ [])
          ∙ (append_assoc items (map f (pairs_on section side 1 l.before)) (f (pair_on side (l.before + 1)) ∷ [])
          ∙ ap (λ (rest : List Standing). items ++ rest)
          (sym (pairs_and_one f section side l.before (sym c.has_pair.ensures ∙ w.if-has_pair.true))))))
      | else-has_pair w ↦
          (λ i. (w.standings-is i).items) ∙ (l.invariant
          ∙ ap (λ (rest : List Standing). items ++ rest)
          (sym (pairs_and_none f section side l.before (sym c.has_pair.ensures ∙ w.if-has_pair.false))))
    ]
