use Rattle.std.proofs.Common.{sym, ap, ◌∙◌}
use Rattle.std.specs.Prelude.{slice_get, option_and_then}
use Rattle.rbac.specs.Authorization.{authorized_roles}
use Rattle.rbac.specs.RoleData.{RoleData}
use Rattle.rbac.specs.declared.account.Account.{Account}
use Rattle.session_book.proofs.OnlookerLemmas.{unseated_onlooker, seated_onlooker}
use Rattle.session_book.proofs.exposure.onlooker.Goals as goal

pub returns-then-not-is_authorized : goal.returns-then-not-is_authorized
returns-then-not-is_authorized c =
    let read = c.authorized_at.ensures ∙ ap (λ (roles : RoleData).
    option_and_then (λ (account : Account). authorized_roles roles account.name) (slice_get roles.accounts c.args.place))
    c.roles.ensures in
    unseated_onlooker c.args.state.now c.args.place c.authorized_at.result c.requires.place read
    (sym c.is_authorized.ensures ∙ c.if-not-is_authorized.true)

pub returns : goal.returns
returns c =
    let read = c.authorized_at.ensures ∙ ap (λ (roles : RoleData).
    option_and_then (λ (account : Account). authorized_roles roles account.name) (slice_get roles.accounts c.args.place))
    c.roles.ensures in
    seated_onlooker c.args.state.now c.args.place c.authorized_at.result c.requires.place read c.args.user c.seat.result
    c.requires.user c.seat.ensures
