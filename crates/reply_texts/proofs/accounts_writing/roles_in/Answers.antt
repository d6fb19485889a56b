use Rattle.std.proofs.Common.{rules, ◌++◌, ◌∷◌, [], get_or, ap, sym, ◌∙◌}
use Rattle.session_roles.specs.declared.role.Role.TheVariants.{Member}
use Rattle.session_roles.specs.Role.{roles, has}
use Rattle.reply_texts.proofs.FilterLemmas.{with_next, without_next}
use Rattle.reply_texts.proofs.accounts_writing.roles_in.Goals as goal
use Rattle.reply_texts.proofs.accounts_writing.roles_in.Goals.{then-has+in_ok-push, else-has}

pub loop-role-preserved : goal.loop-role-preserved
loop-role-preserved c =
    let test = has c.args.assigned in
    let index = c.loop-role.role-index in
    elim c.if-has.branch [
      | then-has+in_ok-push w ↦
          (λ i. (w.roles-is i).items)
          ∙ w.in_ok-push.ensures.items
          ∙ ap (λ kept. kept ++ get_or roles index Member ∷ []) c.loop-role.invariant
          ∙ sym (with_next test roles index Member (search rules) (sym c.has.ensures.has ∙ w.if-has.true))
      | else-has w ↦
          (λ i. (w.roles-is i).items)
          ∙ c.loop-role.invariant
          ∙ sym (without_next test roles index Member (search rules) (sym c.has.ensures.has ∙ w.if-has.false))
    ]
