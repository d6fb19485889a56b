use Rattle.std.proofs.Common.{List, ℕ, ◌≡◌, true, subst}
use Rattle.std.specs.Prelude.{◌↔◌}
use Rattle.rbac.specs.Authorization.{HasPermission}
use Rattle.session_state.specs.SessionState.{SessionState}
use Rattle.session_state.proofs.state.State.check_access.Goals as goal

pub returns-clause-permission : goal.returns-clause-permission
returns-clause-permission c =
    subst (λ (state : SessionState). (c.check_access.result ≡ true) ↔ HasPermission state.roles c.args.name
    c.args.operation) c.self.view_is
    (subst (λ (name : List ℕ). (c.check_access.result ≡ true) ↔ HasPermission c.self.inside.roles name c.args.operation)
    c.as_str.ensures.text
    c.check_access.ensures.permission)
