use Rattle.std.proofs.Common.{sym, ap, ◌∙◌}
use Rattle.session_state.specs.Refusal.{first_cause, own_causes}
use Rattle.session_state.proofs.state.State.own_cause.Goals as goal

pub returns-in-Rule : goal.returns-in-Rule
returns-in-Rule c =
    c.rule_cause.ensures c.args.self.now c.in-Rule.cell
    ∙ ap (λ command. first_cause (own_causes c.args.self.now command)) (sym c.in-Rule.is)

pub returns-in-AddUser : goal.returns-in-AddUser
returns-in-AddUser c =
    c.add_user_cause.ensures c.in-AddUser.digest
    ∙ ap (λ command. first_cause (own_causes c.args.self.now command)) (sym c.in-AddUser.is)

pub returns-in-Deassign : goal.returns-in-Deassign
returns-in-Deassign c =
    c.deassign_cause.ensures ∙ ap (λ command. first_cause (own_causes c.args.self.now command)) (sym c.in-Deassign.is)

pub returns-in-DeleteInheritance : goal.returns-in-DeleteInheritance
returns-in-DeleteInheritance c =
    c.delete_inheritance_cause.ensures ∙ ap (λ command. first_cause (own_causes c.args.self.now command))
    (sym c.in-DeleteInheritance.is)
