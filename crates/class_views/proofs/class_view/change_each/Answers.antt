use Rattle.std.proofs.Common.{rules, arith, ◌≡◌, ◌<◌, length, get_or, subst, ◌∙◌}
use Rattle.std.specs.Prelude.{Bool, Some}
use Rattle.std.proofs.lemmas.List.{get_or_default}
use Rattle.class_views.specs.Classes.{class_sees, without_embargo}
use Rattle.class_views.specs.Kept.{IsClassWith}
use Rattle.class_views.specs.Places.{class_at}
use Rattle.class_views.specs.declared.class_view.ClassView.{ClassView}
use Rattle.class_views.proofs.SetLemmas.{done_more, rest_left}
use Rattle.class_views.proofs.class_view.change_each.Goals as goal

pub loop-place-preserved : goal.loop-place-preserved
loop-place-preserved c =
    let public = without_embargo c.args.public.now in
    let l = c.loop-place in
    let first = c.args.classes.now.items in
    let within : l.place < length l.classes.items = search rules in
    let sees : c.is_of-sees.result ≡ class_sees public (Some (class_at l.place)) c.args.board =
    c.is_of-sees.ensures
    ∙ (λ i. class_sees (without_embargo (c.new-sight.ensures.public i)) (Some (c.at.ensures i)) (c.new-sight.ensures.board i)) in
    record {
      each = search rules;
      done =
          done_more
          (λ k before after. IsClassWith c.args.board (class_sees public (Some (class_at k)) c.args.board)
          c.args.old.now c.args.new.now before after)
          first l.classes.items l.place c.change.new.self within l.invariant.done
          (λ d.
          subst (λ (seen : Bool). IsClassWith c.args.board seen c.args.old.now c.args.new.now (get_or first l.place d)
          c.change.new.self) sees
          (subst (λ (before : ClassView). IsClassWith c.args.board c.is_of-sees.result c.args.old.now c.args.new.now
          before c.change.new.self)
          (c.index_mut.ensures.value ∙ (get_or_default l.classes.items l.place c.index_mut.result.now d within
          ∙ l.invariant.rest l.place d (omega arith)))
          c.change.ensures));
      rest = rest_left first l.classes.items l.place c.change.new.self l.invariant.rest;
    }
