use Rattle.std.proofs.Common.{get_or, sym, ap, ◌∙◌}
use Rattle.std.proofs.lemmas.List.{take_all}
use Rattle.session_roles.specs.Role.{with_role}
use Rattle.session_roles.specs.declared.role.Role.TheVariants.{Member}
use Rattle.session_opening.specs.NewUser.{set_of}
use Rattle.session_opening.proofs.JoiningLemmas.{set_of_none, set_of_more}
use Rattle.session_opening.proofs.opening_acceptance.set_of.Goals as goal

pub loop-role-init : goal.loop-role-init
loop-role-init c = c.new-set.ensures ∙ sym set_of_none

pub loop-role-preserved : goal.loop-role-preserved
loop-role-preserved c =
    let role = get_or c.args.list.now c.loop-role.role-index Member in
    c.with-set.ensures ∙ ap (λ set. with_role set role) c.loop-role.invariant
    ∙ set_of_more c.args.list.now c.loop-role.role-index Member c.loop-role-test.true

pub returns : goal.returns
returns c = c.loop-role.invariant ∙ ap set_of (take_all c.loop-role.role-index c.args.list.now c.loop-role-test.false)
