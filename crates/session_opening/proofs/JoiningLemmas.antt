-- Nothing refuses a user who may join, and what the roles are with the user.
use Rattle.std.proofs.Common.{
  ◌≡◌,
  ℕ,
  ◌+◌,
  ◌<◌,
  ◌≤◌,
  Bool,
  true,
  false,
  cond,
  zero,
  suc,
  List,
  [],
  ◌∷◌,
  ◌++◌,
  length,
  take,
  drop,
  get_or,
  inl,
  inr,
  refl,
  sym,
  ap,
  subst,
  ◌∙◌,
  arith,
}
use Rattle.std.specs.Prelude.{◌&&◌, ◌||◌}
use Rattle.std.specs.List.{list_any}
use Rattle.std.proofs.Math.Bool.{or_comm}
use Rattle.std.proofs.lemmas.Bool.{both_ways, false≢true, false_from_ne_true, or_left}
use Rattle.std.proofs.lemmas.List.{get_or_push, length_push, take_all, take-append-drop}
use Rattle.std.proofs.lemmas.List.Folds.{list_any_more, list_any_at, list_any-append}
use Rattle.rbac.specs.Account.{same_name, HasAccount, IsAssigned, with_change}
use Rattle.rbac.specs.Authorization.{IsReached, IsBroken, KeepsSeparation, reached}
use Rattle.rbac.specs.Refusals.{RefusesUser, RefusesAssignment}
use Rattle.session_roles.specs.Role.{roles_that, same_role, has, with_role, is_role_of}
use Rattle.session_roles.specs.declared.edition.Edition.{Edition}
use Rattle.rbac.specs.RoleData.{RoleData, add_user, assign_user}
use Rattle.session_roles.specs.Separation.{apart, has_both}
use Rattle.rbac.specs.declared.account.Account.{Account}
use Rattle.rbac.specs.declared.add_user_error.AddUserError.{AddUserError}
use Rattle.rbac.specs.declared.add_user_error.AddUserError.TheVariants.{BadName, UserExists, TooManyUsers}
use Rattle.rbac.specs.declared.assign_error.AssignError.{AssignError}
use Rattle.rbac.specs.declared.assign_error.AssignError.TheVariants.{
  NoSuchUser,
  NoSuchRole,
  AlreadyAssigned,
  Separation,
}
use Rattle.rbac.specs.declared.inheritance.Inheritance.{Inheritance}
use Rattle.session_roles.specs.declared.role.Role.{Role}
use Rattle.rbac.proofs.AccountLemmas.{same_name_decides}
use Rattle.rbac.proofs.AuthorizationLemmas.{ReachesBoth, decides_both}
use Rattle.rbac.proofs.ListLemmas.{Any-push_cases, decides_any}
use Rattle.session_roles.proofs.RoleLemmas.{has_roles_that, same_roles_that, same_role_equiv}
use Rattle.session_roles.proofs.SeparationLemmas.{none_found}
use Rattle.session_opening.specs.declared.new_user.NewUser.{NewUser}
use Rattle.session_opening.specs.NewUser.{set_of, repeats, knows_roles}
use Rattle.session_opening.specs.Joining.{MayJoin, with_user}

or_false : (a b : Bool) → (a || b) ≡ false → (a ≡ false) × (b ≡ false)
or_false true b none = absurd (false≢true (sym none))
or_false false b none = (refl, none)

both : (a b : Bool) → (a && b) ≡ true → (a ≡ true) × (b ≡ true)
both true b is = (refl, is)
both false b is = absurd (false≢true is)

-- an edition that knows all roles of a list knows each
known_at : (edition : Edition) (list : List Role) (n : ℕ) (d : Role) → n < length list → knows_roles edition list ≡
    true → is_role_of edition (get_or list n d) ≡ true
known_at edition [] n d within known = absurd (omega arith)
known_at edition (role ∷ list) zero d within known =
    (both (is_role_of edition role) (knows_roles edition list) known).0
known_at edition (role ∷ list) (suc n) d within known =
    known_at edition list n d (omega (arith, within))
    (both (is_role_of edition role) (knows_roles edition list) known).1

-- no role makes no set
pub set_of_none : set_of [] ≡ []
unfolding roles_that
set_of_none = refl

-- one role more of a list
pub set_of_more : (list : List Role) (n : ℕ) (d : Role) → n < length list → with_role (set_of (take n list))
    (get_or list n d) ≡ set_of (take (n + 1) list)
set_of_more list n d within =
    let more = get_or list n d in
    same_roles_that (λ other. same_role more other || has (set_of (take n list)) other) (has (take (n + 1) list))
    (λ other.
    ap (λ b. same_role more other || b) (has_roles_that (has (take n list)) other)
    ∙ or_comm (same_role more other) (has (take n list) other)
    ∙ ap (λ b. has (take n list) other || b) (same_role_equiv.symm more other)
    ∙ sym (list_any_more (same_role other) list n d within))

-- what stands in the list is there
absent_at : (list : List Role) (role : Role) (n : ℕ) (d : Role) → n < length list → has list role ≡ false →
    same_role role (get_or list n d) ≡ false
absent_at list role n d within absent =
    false_from_ne_true (same_role role (get_or list n d))
    (λ same. both_ways _ absent (list_any_at (same_role role) list n d within same))

-- a role stands once where none stands twice
not_before : (list : List Role) (n : ℕ) (d : Role) → n < length list → repeats list ≡ false → has (take n list)
    (get_or list n d) ≡ false
not_before [] n d within once = absurd (omega arith)
not_before (role ∷ list) zero d within once = refl
not_before (role ∷ list) (suc n) d within once =
    let parts = or_false (has list role) (repeats list) once in
    let below : n < length list = omega (arith, within) in
    let apart = same_role_equiv.symm (get_or list n d) role ∙ absent_at list role n d below parts.0 in
    (λ i. apart i || has (take n list) (get_or list n d)) ∙ not_before list n d below parts.1

-- the first roles are among all
among_all : (list : List Role) (n : ℕ) (role : Role) → has (take n list) role ≡ true → has list role ≡ true
among_all list n role there =
    ap (λ all. has all role) (sym (take-append-drop n list))
    ∙ list_any-append (same_role role) (take n list) (drop n list)
    ∙ or_left (has (take n list) role) (has (drop n list) role) there

reached_by_all : (pairs : List Inheritance) (list : List Role) (n : ℕ) (role : Role) → IsReached pairs
    (set_of (take n list)) role → IsReached pairs (set_of list) role
reached_by_all pairs list n role is = (
  is.0,
  has_roles_that (has list) is.0 ∙ among_all list n is.0 (sym (has_roles_that (has (take n list)) is.0) ∙ is.1),
  is.2,
)

-- where no account has the name, a change of its roles changes the last account alone
changed_last : (role : Role) (name : List ℕ) (set : List Role) (accounts : List Account) →
    list_any (λ account. same_name account.name name) accounts ≡ false →
    with_change (λ set. with_role set role) name (accounts ++ record { name = name; assigned = set } ∷ []) ≡ accounts
    ++ record { name = name; assigned = with_role set role } ∷ []
changed_last role name set [] none =
    ap (λ b. cond b (record { name = name; assigned = with_role set role }) (record { name = name; assigned = set }) ∷
    []) ((same_name_decides name name).1 refl)
changed_last role name set (account ∷ accounts) none =
    let parts = or_false (same_name account.name name) (list_any (λ account. same_name account.name name) accounts) none
    in
    λ i. cond (parts.0 i) (record { name = account.name; assigned = with_role account.assigned role }) account ∷
    changed_last role name set accounts parts.1 i

-- the user with the first roles of the list
abbrev pub account_so_far : NewUser → ℕ → Account
account_so_far user n = record { name = user.name; assigned = set_of (take n user.roles) }

abbrev pub so_far : RoleData → NewUser → ℕ → RoleData
so_far state user n = record state { accounts = state.accounts ++ account_so_far user n ∷ [] }

pub all_so_far : (state : RoleData) (user : NewUser) (n : ℕ) → length user.roles ≤ n → so_far state user n ≡ with_user
    state user
all_so_far state user n all =
    ap (λ list. record state { accounts = state.accounts ++ record { name = user.name; assigned = set_of list } ∷ [] })
    (take_all n user.roles all)

-- a user who may join
module _ (state : RoleData) (user : NewUser) (may : MayJoin state user) where
  no_user : ¬ HasAccount state.accounts user.name
  no_user there =
      both_ways _ may.new
      ((decides_any (λ account. same_name account.name user.name) (λ account. account.name ≡ user.name)
      (λ account. same_name_decides account.name user.name) state.accounts).1 there)

  -- no cause refuses the user
  pub user_joins : (cause : AddUserError) → ¬ RefusesUser state user.name cause
  user_joins BadName bad = both_ways _ bad may.named
  user_joins UserExists there = no_user there
  user_joins TooManyUsers full = absurd (omega (arith, may.room, full))

  -- at first the user has no role
  pub user_added : add_user state user.name ≡ so_far state user 0
  user_added = ap (λ set. record state {
    accounts = state.accounts ++ record { name = user.name; assigned = set } ∷ [];
  }) (sym set_of_none)

  -- one role more is assigned
  pub role_added : (n : ℕ) (d : Role) → n < length user.roles → assign_user (so_far state user n) user.name
      (get_or user.roles n d) ≡ so_far state user (n + 1)
  role_added n d within =
      ap (λ accounts. record state { accounts = accounts }) (changed_last (get_or user.roles n d) user.name
      (set_of (take n user.roles)) state.accounts may.new)
      ∙ ap (λ set. record state { accounts = state.accounts ++ record { name = user.name; assigned = set } ∷ [] })
      (set_of_more user.roles n d within)

  -- nobody is then authorized for both roles of a separation set, where nobody was
  pub apart_so_far : KeepsSeparation state → (n : ℕ) → KeepsSeparation (so_far state user n)
  apart_so_far separate n set broken =
      elim (Any-push_cases (λ account. ReachesBoth state.pairs account.assigned set) state.accounts
      (account_so_far user n) broken) [
        | inl old ↦ separate set old
        | inr new ↦
            both_ways _ (none_found (has_both (reached state.pairs (set_of user.roles))) (sym may.apart) set)
            ((decides_both state.pairs (set_of user.roles) set).1 (
              reached_by_all state.pairs user.roles n (apart set).0 new.0,
              reached_by_all state.pairs user.roles n
                  (apart set).1 new.1,
            ))
      ]

  there_now : (n : ℕ) → HasAccount (so_far state user n).accounts user.name
  there_now n = (
    length state.accounts,
    account_so_far user n,
    omega (arith, length_push state.accounts (account_so_far user n)),
    get_or_push state.accounts
        (account_so_far user n) (account_so_far user n) (length state.accounts) refl,
    refl,
  )

  not_assigned : (n : ℕ) (d : Role) → n < length user.roles → ¬ IsAssigned (so_far state user n).accounts user.name
      (get_or user.roles n d)
  not_assigned n d within assigned =
      let role = get_or user.roles n d in
      elim (Any-push_cases (λ account. (account.name ≡ user.name) × (has account.assigned role ≡ true)) state.accounts
      (account_so_far user n) assigned) [
        | inl old ↦ no_user (old.0, old.1, old.2, old.3, old.4.0)
        | inr new ↦ both_ways _ (has_roles_that (has (take n user.roles)) role ∙ not_before user.roles n d within
            may.once) new.1
      ]

  -- no cause refuses the next role
  pub role_joins : KeepsSeparation state → (n : ℕ) (d : Role) → n < length user.roles → (cause : AssignError) →
      ¬ RefusesAssignment (so_far state user n) user.name (get_or user.roles n d) cause
  role_joins separate n d within NoSuchUser none = none (there_now n)
  role_joins separate n d within NoSuchRole unknown =
      both_ways _ unknown (known_at state.edition user.roles n d within may.known)
  role_joins separate n d within AlreadyAssigned assigned = not_assigned n d within assigned
  role_joins separate n d within (Separation set) broken =
      apart_so_far separate (n + 1) set (subst (λ now. IsBroken now set) (role_added n d within) broken)
