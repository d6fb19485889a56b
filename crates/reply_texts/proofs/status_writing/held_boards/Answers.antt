use Rattle.std.proofs.Common.{◌+◌, ◌++◌, ◌∷◌, [], ap, sym, ◌∙◌}
use Rattle.small_sets.specs.Numbers.{has_number}
use Rattle.reply_texts.proofs.RangeLemmas.{numbers_with_next, numbers_without_next}
use Rattle.reply_texts.proofs.status_writing.held_boards.Goals as goal
use Rattle.reply_texts.proofs.status_writing.held_boards.Goals.{then-contains+in_ok-push, else-contains}

pub loop-before-preserved : goal.loop-before-preserved
loop-before-preserved c =
    let before = c.loop-before.before in
    let held = has_number c.args.public.now.held in
    elim c.if-contains.branch [
      | then-contains+in_ok-push w ↦
          (λ i. (w.boards-is i).items)
          ∙ w.in_ok-push.ensures.items
          ∙ ap (λ boards. boards ++ (before + 1) ∷ []) c.loop-before.invariant
          ∙ sym (numbers_with_next held before (sym c.contains.ensures.has ∙ w.if-contains.true))
      | else-contains w ↦
          (λ i. (w.boards-is i).items)
          ∙ c.loop-before.invariant
          ∙ sym (numbers_without_next held before (sym c.contains.ensures.has ∙ w.if-contains.false))
    ]
