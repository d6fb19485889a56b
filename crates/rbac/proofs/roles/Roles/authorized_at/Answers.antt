use Rattle.std.proofs.Common.{◌≡◌, List, length, Some, refl, sym, ap, ◌∙◌}
use Rattle.std.specs.Prelude.{slice_get, option_and_then}
use Rattle.std.proofs.lemmas.Option.{slice_get_read}
use Rattle.rbac.specs.Authorization.{authorized_roles}
use Rattle.rbac.specs.Kept.{data_of}
use Rattle.rbac.specs.RoleData.{RoleData}
use Rattle.rbac.specs.declared.account.Account.{Account}
use Rattle.rbac.proofs.AuthorizationLemmas.{authorized_there, closure_reached}
use Rattle.rbac.proofs.roles.Roles.authorized_at.Goals as goal

pub returns : goal.returns
returns c =
    let now : RoleData = data_of c.self.inside in
    let account : Account = c.in_ok-account.account.now in
    let read = c.deref.result.now in
    let found = c.in_ok-account.ensures.lookup in
    let there : slice_get now.accounts c.args.place ≡ Some account =
    ap (λ (list : List Account). slice_get list c.args.place) (sym c.deref.ensures.value)
    ∙ slice_get_read read (length read) c.args.place account refl found.3.0 found.1 in
    ap Some (c.reached_from.ensures ∙ closure_reached now.pairs c.self.inside.hierarchy.reached account.assigned
    c.self.invariant.closure)
    ∙ sym (ap (option_and_then (λ (account : Account). authorized_roles now account.name)) there
    ∙ authorized_there now c.args.place account c.self.invariant.valid.names there)
    ∙ ap (λ (now : RoleData). option_and_then (λ (account : Account). authorized_roles now account.name)
    (slice_get now.accounts c.args.place)) c.self.view_is
