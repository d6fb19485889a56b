use Rattle.std.proofs.Common.{sym, ◌∙◌}
use Rattle.rbac.proofs.CauseLemmas.{deletion_refused, deletion_unrefused}
use Rattle.rbac.proofs.roles.Roles.delete_inheritance.Goals as goal

pub returns-in-Some-clause-cause : goal.returns-in-Some-clause-cause
returns-in-Some-clause-cause c =
    deletion_refused c.args.self.now c.args.senior c.args.junior c.in-Some.cause
    (sym c.in-Some.is ∙ c.deletion_cause.ensures)

pub delete_inheritance_unrefused-requires : goal.delete_inheritance_unrefused-requires
delete_inheritance_unrefused-requires c =
    deletion_unrefused c.args.self.now c.args.senior c.args.junior
    (sym c.in_default.is ∙ c.deletion_cause.ensures)

pub returns-clause-ok : goal.returns-clause-ok
returns-clause-ok c =
    deletion_unrefused c.args.self.now c.args.senior c.args.junior
    (sym c.in_default.is ∙ c.deletion_cause.ensures)
