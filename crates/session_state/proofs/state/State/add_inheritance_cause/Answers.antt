use Rattle.std.proofs.Common.{Some, sym, ap, ◌∙◌}
use Rattle.std.specs.Prelude.{option_map}
use Rattle.rbac.specs.Causes.{inheritance_cause}
use Rattle.rbac.specs.RoleData.{RoleData}
use Rattle.session_state.specs.Accounts.{inheritance_refusal}
use Rattle.session_state.proofs.AccountCauseLemmas.{inheritance_cause_told}
use Rattle.session_state.proofs.state.State.add_inheritance_cause.Goals as goal

pub returns : goal.returns
returns c =
    let cause = sym c.in_ok-cause.was ∙ c.inheritance_cause.ensures
    ∙ ap (λ (roles : RoleData). inheritance_cause roles c.args.senior c.args.junior) c.roles.ensures in
    ap Some c.inheritance_refusal.ensures ∙ ap (option_map inheritance_refusal) cause
    ∙ inheritance_cause_told c.args.self.now c.args.senior c.args.junior
