use Rattle.std.proofs.Common.{ℕ, ◌+◌, Bool, ◌++◌, ◌∷◌, [], ap, sym, ◌∙◌}
use Rattle.disclosure_rules.specs.LiveCells.{is_live}
use Rattle.reply_texts.proofs.RangeLemmas.{numbers_with_next, numbers_without_next}
use Rattle.reply_texts.proofs.status_writing.live_tables.Goals as goal
use Rattle.reply_texts.proofs.status_writing.live_tables.Goals.{then-contains+in_ok-push, else-contains}

pub loop-before-preserved : goal.loop-before-preserved
loop-before-preserved c =
    let before = c.loop-before.before in
    let live : ℕ → Bool = λ table. is_live c.args.public.now.live (record { table = table; board = c.args.board }) in
    elim c.if-contains.branch [
      | then-contains+in_ok-push w ↦
          (λ i. (w.tables-is i).items)
          ∙ w.in_ok-push.ensures.items
          ∙ ap (λ tables. tables ++ (before + 1) ∷ []) c.loop-before.invariant
          ∙ sym (numbers_with_next live before (sym c.contains.ensures ∙ w.if-contains.true))
      | else-contains w ↦
          (λ i. (w.tables-is i).items)
          ∙ c.loop-before.invariant
          ∙ sym (numbers_without_next live before (sym c.contains.ensures ∙ w.if-contains.false))
    ]
