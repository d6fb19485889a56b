use Rattle.std.proofs.Common.{sym, ◌∙◌}
use Rattle.rbac.proofs.CauseLemmas.{deassignment_refused, deassignment_unrefused}
use Rattle.rbac.proofs.roles.Roles.deassign.Goals as goal

pub returns-in-Some-clause-cause : goal.returns-in-Some-clause-cause
returns-in-Some-clause-cause c =
    deassignment_refused c.args.self.now c.args.name.now c.args.role c.in-Some.cause
    (sym c.in-Some.is ∙ c.deassignment_cause.ensures)

pub deassign_unrefused-requires : goal.deassign_unrefused-requires
deassign_unrefused-requires c =
    deassignment_unrefused c.args.self.now c.args.name.now c.args.role
    (sym c.in_default.is ∙ c.deassignment_cause.ensures)

pub returns-clause-ok : goal.returns-clause-ok
returns-clause-ok c =
    deassignment_unrefused c.args.self.now c.args.name.now c.args.role
    (sym c.in_default.is ∙ c.deassignment_cause.ensures)
