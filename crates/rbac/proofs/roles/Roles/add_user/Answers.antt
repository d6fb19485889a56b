use Rattle.std.proofs.Common.{sym, subst, ◌∙◌}
use Rattle.rbac.specs.declared.add_user_error.AddUserError.{AddUserError}
use Rattle.rbac.specs.Refusals.{RefusesUser}
use Rattle.rbac.proofs.CauseLemmas.{user_refused, user_unrefused}
use Rattle.rbac.proofs.roles.Roles.add_user.Goals as goal

pub returns-in-Some-clause-cause : goal.returns-in-Some-clause-cause
returns-in-Some-clause-cause c =
    user_refused c.args.self.now c.args.name.now c.in-Some.cause (sym c.in-Some.is ∙ c.user_cause.ensures)

pub add_user_unrefused-requires : goal.add_user_unrefused-requires
add_user_unrefused-requires c =
    subst (λ name. (cause : AddUserError) → ¬ RefusesUser c.args.self.now name cause) (sym c.in-Ok.ensures.ok)
    (user_unrefused c.args.self.now c.args.name.now (sym c.in_default.is ∙ c.user_cause.ensures))

pub returns-clause-ok : goal.returns-clause-ok
returns-clause-ok c =
    user_unrefused c.args.self.now c.args.name.now (sym c.in_default.is ∙ c.user_cause.ensures)
