use Rattle.std.proofs.Common.{◌≡◌, None, sym, ap, ◌∙◌}
use Rattle.std.specs.Prelude.{option_map}
use Rattle.std.specs.Option.{option_or}
use Rattle.rbac.specs.Causes.{deassignment_cause}
use Rattle.rbac.specs.RoleData.{deassign_user}
use Rattle.session_state.specs.Accounts.{deassignment_refusal}
use Rattle.session_state.specs.Refusal.{first_cause, needed_causes}
use Rattle.session_state.proofs.AccountCauseLemmas.{deassignment_cause_told}
use Rattle.session_state.proofs.state.State.deassign_cause.Goals as goal

pub returns-in-None : goal.returns-in-None
returns-in-None c =
    let state = c.args.self.now in
    let none : None ≡ deassignment_cause state.roles c.args.name c.args.role =
    sym c.in-None.is ∙ c.deassignment_cause.ensures
    ∙ (λ i. deassignment_cause (c.roles.ensures i) (c.as_str.ensures.text i) c.args.role) in
    c.needed_cause.ensures
    ∙ ap (λ name. first_cause (needed_causes state (deassign_user state.roles name c.args.role)))
    c.as_str-in-None.ensures.text
    ∙ ap (λ answer. option_or (option_map deassignment_refusal answer)
    (first_cause (needed_causes state (deassign_user state.roles c.args.name c.args.role)))) none
    ∙ deassignment_cause_told state c.args.name c.args.role c.requires
