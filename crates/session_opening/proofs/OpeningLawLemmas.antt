-- What holds of every session that opens.
use Rattle.std.proofs.Common.{
  ◌≡◌,
  ℕ,
  ◌+◌,
  ◌<◌,
  ◌≤◌,
  zero,
  suc,
  true,
  List,
  [],
  ◌∷◌,
  length,
  take,
  get_or,
  None,
  refl,
  sym,
  ap,
  subst,
  ◌∙◌,
  arith,
}
use Rattle.std.specs.Prelude.{not}
use Rattle.std.specs.Bool.{then_some}
use Rattle.std.proofs.lemmas.List.{map_more, take_all}
use Rattle.rbac.specs.Authorization.{IsAuthorized, IsReached, KeepsSeparation, reached}
use Rattle.session_roles.specs.declared.edition.Edition.{Edition}
use Rattle.session_roles.specs.Role.{has}
use Rattle.rbac.specs.RoleData.{RoleData}
use Rattle.session_roles.specs.declared.role.Role.TheVariants.{Administrator}
use Rattle.rbac.proofs.AuthorizationLemmas.{decides_is_reached}
use Rattle.rbac.proofs.ListLemmas.{decides_any}
use Rattle.rbac.proofs.ValidityLemmas.{valid_opening}
use Rattle.session_opening.specs.declared.config.Config.{Config}
use Rattle.session_opening.specs.declared.new_user.NewUser.{NewUser}
use Rattle.session_opening.specs.declared.opening_refusal.OpeningRefusal.TheVariants.{LastAdministrator}
use Rattle.session_state.specs.Accounts.{has_administrator}
use Rattle.session_opening.specs.Joining.{JoinInTurn}
use Rattle.session_opening.specs.NewUser.{account_of}
use Rattle.session_opening.specs.Opening.{opening_of, opening_roles}
use Rattle.session_opening.specs.OpeningRefusal.{users_causes, opening_refusal}
use Rattle.session_opening.proofs.JoiningLemmas.{so_far, all_so_far, apart_so_far}
use Rattle.session_opening.proofs.OpeningLemmas.{given_at}
use Rattle.session_opening.proofs.OpeningRefusalLemmas.{first_append, none_parts, not_met, was_met, users_join}

-- each user who joins leaves the roles apart
apart_at : (edition : Edition) (users : List NewUser) → JoinInTurn edition users → (k : ℕ) → k ≤ length users →
    KeepsSeparation (opening_roles edition (take k users))
apart_at edition users join zero within = (valid_opening edition).separate
apart_at edition users join (suc k) within =
    let below : k < length users = omega (arith, within) in
    let before = opening_roles edition (take k users) in
    let user = (given_at users k below).0 in
    let next = get_or users k user in
    let joined : so_far before next (length next.roles) ≡ opening_roles edition (take (k + 1) users) =
    all_so_far before next (length next.roles) (omega arith)
    ∙ ap (λ accounts. record before { accounts = accounts }) (sym (map_more account_of users k user below)) in
    let one_on : k + 1 ≡ suc k = omega arith in
    subst (λ n. KeepsSeparation (opening_roles edition (take n users))) one_on
    (subst KeepsSeparation joined (apart_so_far before next (join k user below)
    (apart_at edition users join k (omega (arith, within))) (length next.roles)))

pub keeps_separation : (config : Config) → opening_refusal config ≡ None → KeepsSeparation (opening_of config).roles
keeps_separation config none =
    subst (λ users. KeepsSeparation (opening_roles config.edition users))
    (take_all (length config.users) config.users (omega arith))
    (apart_at config.edition config.users (users_join config none) (length config.users) (omega arith))

-- who is found to be authorized for Administrator is
somebody : (roles : RoleData) → has_administrator roles ≡ true → (name : List ℕ) × IsAuthorized roles name Administrator
somebody roles found =
    let some = (decides_any (λ account. has (reached roles.pairs account.assigned) Administrator)
    (λ account. IsReached roles.pairs account.assigned Administrator)
    (λ account. decides_is_reached roles.pairs account.assigned Administrator) roles.accounts).0 found in
    (some.1.name, (some.0, some.1, some.2, some.3, (refl, some.4)))

pub has_one : (config : Config) → opening_refusal config ≡ None → (name : List ℕ) × IsAuthorized
    (opening_of config).roles name Administrator
unfolding opening_refusal
has_one config none =
    let last = then_some (not (has_administrator (opening_roles config.edition config.users))) LastAdministrator in
    let causes = users_causes config.edition config.movement [] config.users in
    let of_all = (none_parts _ _ (sym (first_append causes (last ∷ [])) ∙ none)).1 in
    somebody (opening_roles config.edition config.users)
    (was_met (has_administrator (opening_roles config.edition config.users))
    (not_met _ LastAdministrator (none_parts last None of_all).0))
