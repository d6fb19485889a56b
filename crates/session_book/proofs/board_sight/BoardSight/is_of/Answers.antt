use Rattle.std.proofs.Common.{ap, sym, ◌∙◌}
use Rattle.std.specs.Prelude.{is_none, slice_get, option_and_then}
use Rattle.rbac.specs.Authorization.{authorized_roles}
use Rattle.rbac.specs.RoleData.{RoleData}
use Rattle.rbac.specs.declared.account.Account.{Account}
use Rattle.disclosure_rules.specs.Policy.{first_rule}
use Rattle.disclosure_rules.specs.declared.fact.Fact.TheVariants.{Hands}
use Rattle.disclosure_rules.specs.declared.public.Public.{Public}
use Rattle.disclosure_rules.specs.declared.viewer.Viewer.{Viewer}
use Rattle.session_book.proofs.OnlookerLemmas.{seated_so, seated_onlooker, unplayed_onlooker, unseated_onlooker}
use Rattle.session_book.proofs.board_sight.BoardSight.is_of.Goals.{
  then-self-via-then-self,
  then-self-via-else-self+then-not-is_authorized,
}
use Rattle.session_book.proofs.board_sight.BoardSight.is_of.Goals as goal

pub returns-then-self-clause-sees : goal.returns-then-self-clause-sees
returns-then-self-clause-sees c =
    let sight = c.args.self.now in
    let roles = c.unseated-unseated.result.roles in
    let read = ap (λ (viewer : Viewer). viewer.roles) c.unseated-unseated.ensures ∙ (c.authorized_at.ensures
    ∙ ap (λ (roles : RoleData). option_and_then (λ (account : Account). authorized_roles roles account.name)
    (slice_get roles.accounts c.args.place)) c.roles.ensures) in
    c.is_of_roles.ensures.sees
    ∙ elim c.then-self.branch [
      | then-self-via-then-self w ↦
          unplayed_onlooker sight.state.now c.args.place roles c.requires.place read sight.board
          (sight.unplayed w.if-self.true)
      | then-self-via-else-self+then-not-is_authorized w ↦
          unseated_onlooker sight.state.now c.args.place roles c.requires.place read
          (sym w.is_authorized.ensures ∙ w.if-not-is_authorized.true) sight.board
    ]

pub returns-clause-sees : goal.returns-clause-sees
returns-clause-sees c =
    let sight = c.args.self.now in
    let roles = c.unseated-unseated.result.roles in
    let read = ap (λ (viewer : Viewer). viewer.roles) c.unseated-unseated.ensures ∙ (c.authorized_at.ensures
    ∙ ap (λ (roles : RoleData). option_and_then (λ (account : Account). authorized_roles roles account.name)
    (slice_get roles.accounts c.args.place)) c.roles.ensures) in
    c.is_allowed.ensures
    ∙ ap (λ (public : Public). is_none (first_rule public (seated_so roles c.seat.result) (Hands sight.board)))
    c.public.ensures.public
    ∙ seated_onlooker sight.state.now c.args.place roles c.requires.place read c.args.user c.seat.result c.requires.user
    c.seat.ensures sight.board
