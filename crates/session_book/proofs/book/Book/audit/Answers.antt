use Rattle.std.proofs.Common.{subst}
use Rattle.rbac.specs.Authorization.{HasPermission}
use Rattle.session_roles.specs.declared.operation.Operation.TheVariants.{Audit}
use Rattle.session_state.specs.SessionState.{SessionState}
use Rattle.session_book.proofs.book.Book.audit.Goals as goal

pub returns-in-Ok-clause-ok : goal.returns-in-Ok-clause-ok
returns-in-Ok-clause-ok c =
    subst (λ (state : SessionState). HasPermission state.roles c.args.actor Audit) c.state.ensures.state
    (c.check_access.ensures.permission.0 c.if-not-check_access.false)

pub returns-in-Err-clause-err : goal.returns-in-Err-clause-err
returns-in-Err-clause-err c =
    let has = subst (λ (state : SessionState). HasPermission state.roles c.args.actor Audit) c.state.ensures.state
    (c.check_access.ensures.permission.0 c.if-not-check_access.false) in
    (λ same. absurd cc, λ missing. absurd (missing has))
