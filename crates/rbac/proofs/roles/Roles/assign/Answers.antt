use Rattle.std.proofs.Common.{sym, ◌∙◌}
use Rattle.rbac.proofs.CauseLemmas.{assignment_refused, assignment_unrefused}
use Rattle.rbac.proofs.roles.Roles.assign.Goals as goal

pub returns-in-Some-clause-cause : goal.returns-in-Some-clause-cause
returns-in-Some-clause-cause c =
    assignment_refused c.args.self.now c.args.name.now c.args.role c.in-Some.cause
    (sym c.in-Some.is ∙ c.assignment_cause.ensures)

pub assign_unrefused-requires : goal.assign_unrefused-requires
assign_unrefused-requires c =
    assignment_unrefused c.args.self.now c.args.name.now c.args.role
    (sym c.in_default.is ∙ c.assignment_cause.ensures)

pub returns-clause-ok : goal.returns-clause-ok
returns-clause-ok c =
    assignment_unrefused c.args.self.now c.args.name.now c.args.role
    (sym c.in_default.is ∙ c.assignment_cause.ensures)
