use Rattle.std.proofs.Common.{sym, ◌∙◌}
use Rattle.rbac.proofs.CauseLemmas.{inheritance_refused, inheritance_unrefused}
use Rattle.rbac.proofs.roles.Roles.add_inheritance.Goals as goal

pub returns-in-Some-clause-cause : goal.returns-in-Some-clause-cause
returns-in-Some-clause-cause c =
    inheritance_refused c.args.self.now c.args.senior c.args.junior c.in-Some.cause
    (sym c.in-Some.is ∙ c.inheritance_cause.ensures)

pub add_inheritance_unrefused-requires : goal.add_inheritance_unrefused-requires
add_inheritance_unrefused-requires c =
    inheritance_unrefused c.args.self.now c.args.senior c.args.junior
    (sym c.in_default.is ∙ c.inheritance_cause.ensures)

pub returns-clause-ok : goal.returns-clause-ok
returns-clause-ok c =
    inheritance_unrefused c.args.self.now c.args.senior c.args.junior
    (sym c.in_default.is ∙ c.inheritance_cause.ensures)
