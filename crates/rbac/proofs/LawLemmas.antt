-- The laws of roles and authorization.
use Rattle.std.proofs.Common.{
  ◌≡◌,
  ◌≢◌,
  ℕ,
  ◌<◌,
  Bool,
  true,
  false,
  cond,
  List,
  [],
  ◌∷◌,
  get_or,
  inl,
  inr,
  suc,
  zero,
  refl,
  sym,
  ap,
  subst,
  ◌∙◌,
  arith,
}
use Rattle.std.specs.Prelude.{◌⊎◌, not, All, Contains, Option, Some, None, MatchOption, IfSome, OnSome, IfNone}
use Rattle.std.specs.Option.{option_map_or}
use Rattle.std.specs.Bool.{Decides}
use Rattle.rbac.specs.declared.change.Change.{Change}
use Rattle.rbac.specs.declared.change.Change.TheVariants.{Deassign, DeleteInheritance}
use Rattle.session_roles.specs.Operation.{is_operation_of, one_permits}
use Rattle.std.specs.List.{Any}
use Rattle.std.proofs.lemmas.Bool.{both_ways, false≢true, or_right, false_from_ne_true, not_from_false}
use Rattle.std.proofs.lemmas.Bool.Decides.{same_from_decides, Decides-and}
use Rattle.std.proofs.lemmas.List.Elements.{All-nil}
use Rattle.std.proofs.lemmas.List.Folds.{map_fixed}
use Rattle.session_roles.specs.declared.edition.Edition.TheVariants.{First}
use Rattle.session_roles.specs.declared.role.Role.{Role}
use Rattle.session_roles.specs.declared.role.Role.TheVariants.{Contestant, Director}
use Rattle.rbac.specs.declared.inheritance.Inheritance.{Inheritance}
use Rattle.session_roles.specs.declared.operation.Operation.{Operation}
use Rattle.rbac.specs.declared.account.Account.{Account}
use Rattle.session_roles.specs.declared.separation_set.SeparationSet.{SeparationSet}
use Rattle.session_roles.specs.declared.separation_set.SeparationSet.TheVariants.{S1, S2, S3, S4}
use Rattle.session_roles.specs.Role.{has, IsListed, with_role, without_role, same_role}
use Rattle.rbac.specs.Inheritance.{Reaches, pair_of, same_inheritance}
use Rattle.session_roles.specs.Separation.{apart}
use Rattle.rbac.specs.Account.{HasAccount, IsAssigned, same_name}
use Rattle.rbac.specs.RoleData.{RoleData, assign_user, deassign_user, delete_inheritance, after_change}
use Rattle.rbac.specs.Authorization.{
  IsReached,
  IsAuthorized,
  AreAuthorized,
  HasPermission,
  IsPermitted,
  RoleHasPermission,
  KeepsSeparation,
  KeepsAssignedApart,
  IsValid,
  authorized_roles,
  has_permission,
}
use Rattle.session_roles.proofs.RoleLemmas.{same_sets, has_with_role, without_role_absent}
use Rattle.rbac.proofs.InheritanceLemmas.{reaches_on}
use Rattle.rbac.proofs.ListLemmas.{filter_all}
use Rattle.rbac.proofs.PairLemmas.{same_pair_decides}
use Rattle.rbac.proofs.AccountLemmas.{
  AreApart,
  FoundAt,
  apart_changed,
  found_changed,
  none_changed,
  with_roles,
  changed,
  name_kept,
  same_name_decides,
  same_default,
  at_changed,
  length_changed,
  of_the_one,
  no_account,
}
use Rattle.rbac.proofs.AuthorizationLemmas.{are_authorized, authorized_is, decides_permission, none_authorized}

pub senior_permissions : (pairs : List Inheritance) (senior junior : Role) (operation : Operation) →
    Reaches pairs senior junior → RoleHasPermission pairs junior operation → RoleHasPermission pairs senior operation
senior_permissions pairs senior junior operation down permission =
    (permission.0, reaches_on pairs senior junior permission.0 down permission.1, permission.2)

pub senior_users : (state : RoleData) (name : List ℕ) (senior junior : Role) → Reaches state.pairs senior junior →
    IsAuthorized state name senior → IsAuthorized state name junior
senior_users state name senior junior down is = (
  is.0,
  is.1,
  is.2,
  is.3,
  (is.4.0, (is.4.1.0, is.4.1.1, reaches_on state.pairs is.4.1.0 senior junior is.4.1.2 down)),
)

pub assigned_apart : (state : RoleData) → KeepsSeparation state → KeepsAssignedApart state
assigned_apart state keeps set both =
    keeps set (
      both.0,
      both.1,
      both.2,
      both.3,
      (
        ((apart set).0, both.4.0, (0, refl)),
        ((apart set).1, both.4.1, (0, refl)),
      ),
    )

-- a director who inherits Contestant has one role assigned and both of S1 authorized
director : Account
director = record { name = []; assigned = Director ∷ [] }

inheriting : RoleData
inheriting = record { accounts = director ∷ []; pairs = pair_of Director Contestant ∷ []; edition = First }

only_director : (set : SeparationSet) → has (Director ∷ []) (apart set).1 ≡ false
only_director S1 = refl
only_director S2 = refl
only_director S3 = refl
only_director S4 = refl

the_director : (k : ℕ) (x : Account) → k < 1 → get_or (director ∷ []) k x ≡ director
the_director zero x within = refl
the_director (suc k) x within = absurd (omega arith)

pub assigned_is_not_enough : (state : RoleData) × KeepsAssignedApart state × (¬ KeepsSeparation state)
unfolding director inheriting the_director
assigned_is_not_enough = (
  inheriting,
  (λ set both. both_ways _ (only_director set) (ap (λ (account : Account). has account.assigned (apart set).1)
      (sym (the_director both.0 both.1 both.2) ∙ both.3) ∙ both.4.1)),
  (λ keeps. keeps S1 (
    0,
    director,
    omega arith,
    refl,
    ((Director, refl, (0, refl)), (Director, refl, (1, (Contestant, (0, omega arith, refl), refl)))),
  )),
)

-- the account of a name that some account has
found_by : (accounts : List Account) (name : List ℕ) (Q : Account → Type 0)
    (some : Any (λ account. (account.name ≡ name) × Q account) accounts) → FoundAt accounts name some.0
found_by accounts name Q some = record {
  within = some.2;
  found = λ d. ap (λ (account : Account). account.name) (same_default accounts some.0 d some.1 some.2 ∙ some.3)
      ∙ some.4.0;
}

pub not_both : (state : RoleData) → IsValid state → (name : List ℕ) (set : SeparationSet) → IsAuthorized state name
    (apart set).0 → ¬ IsAuthorized state name (apart set).1
not_both state valid name set one other =
    let at = found_by state.accounts name (λ account. IsReached state.pairs account.assigned (apart set).0) one in
    let here = of_the_one state.accounts name one.0 at valid.names (λ account. IsReached state.pairs account.assigned
    (apart set).1) one.1 other in
    valid.separate set (
      one.0,
      one.1,
      one.2,
      one.3,
      (one.4.1, subst (λ (account : Account). IsReached state.pairs account.assigned (apart set).1) one.3 here),
    )

-- with one role more an account has no role less
wider : (b : Bool) (account : Account) (more role : Role) → has account.assigned role ≡ true →
    has (cond b (with_roles account (with_role account.assigned more)) account).assigned role ≡ true
wider true account more role there =
    has_with_role account.assigned more role ∙ or_right (same_role more role) (has account.assigned role) there
wider false account more role there = there

pub still_authorized : (state : RoleData) (name other : List ℕ) (role more : Role) → IsAuthorized state name role →
    IsAuthorized (assign_user state other more) name role
still_authorized state name other role more is =
    let change : List Role → List Role = λ set. with_role set more in
    let account : Account = get_or state.accounts is.0 is.1 in
    let after : Account = changed change other account in
    let named : account.name ≡ name = ap (λ (account : Account). account.name) is.3 ∙ is.4.0 in
    let assigned : has account.assigned is.4.1.0 ≡ true = ap (λ (account : Account). has account.assigned is.4.1.0) is.3
    ∙ is.4.1.1 in (
      is.0,
      after,
      subst (λ n. is.0 < n) (sym (length_changed change other state.accounts)) is.2,
      at_changed change other state.accounts is.0 is.1 after is.2,
      (
        name_kept change other account ∙ named,
        (
          is.4.1.0,
          wider (same_name account.name other) account more is.4.1.0
              assigned,
          is.4.1.2,
        ),
      ),
    )

-- an account of the name, or none
place_step : (account : Account) (accounts : List Account) (name : List ℕ) (same : Bool) → same ≡ same_name account.name
    name
    → ((place : ℕ) × FoundAt accounts name place) ⊎ All (λ account. account.name ≢ name) accounts
    → ((place : ℕ) × FoundAt (account ∷ accounts) name place) ⊎ All (λ account. account.name ≢ name)
    (account ∷ accounts)
place_step account accounts name true same rest =
    inl (0, record { within = omega arith; found = λ d. (same_name_decides account.name name).0 (sym same) })
place_step account accounts name false same (inl at) =
    inl (suc at.0, record { within = omega (arith, at.1.within); found = λ d. at.1.found d })
place_step account accounts name false same (inr none) = inr (all_of none)
  where
    all_of : All (λ account. account.name ≢ name) accounts → All (λ account. account.name ≢ name) (account ∷ accounts)
    all_of none zero d within named = false≢true (same ∙ (same_name_decides account.name name).1 named)
    all_of none (suc k) d within named = none k d (omega arith) named

place_or_none : (accounts : List Account) (name : List ℕ) → ((place : ℕ) × FoundAt accounts name place) ⊎
    All (λ account. account.name ≢ name) accounts
place_or_none [] name = inr (All-nil (λ account. account.name ≢ name))
place_or_none (account ∷ accounts) name =
    place_step account accounts name (same_name account.name name) refl (place_or_none accounts name)

exact_at : (state : RoleData) (name : List ℕ) → AreApart state.accounts →
    ((place : ℕ) × FoundAt state.accounts name place) ⊎ All (λ account. account.name ≢ name) state.accounts →
    MatchOption (authorized_roles state name) (¬ HasAccount state.accounts name) (AreAuthorized state name)
exact_at state name apart (inl at) =
    let d : Account = record { name = name; assigned = [] } in
    subst (λ answer. MatchOption answer (¬ HasAccount state.accounts name) (AreAuthorized state name))
    (sym (authorized_is state name at.0 at.1 apart d)) (are_authorized state name at.0 at.1 apart d)
exact_at state name apart (inr none) =
    subst (λ answer. MatchOption answer (¬ HasAccount state.accounts name) (AreAuthorized state name))
    (sym (none_authorized state name none)) (no_account state.accounts name none)

pub authorized_roles_exact : (state : RoleData) (name : List ℕ) → IsValid state →
    MatchOption (authorized_roles state name) (¬ HasAccount state.accounts name) (AreAuthorized state name)
authorized_roles_exact state name valid = exact_at state name valid.names (place_or_none state.accounts name)

pub authorized_alone : (state : RoleData) (name : List ℕ) (set other : List Role) → AreAuthorized state name set →
    AreAuthorized state name other → set ≡ other
authorized_alone state name set other one two =
    same_sets set other one.listed two.listed (λ role. same_from_decides (has set role) (has other role)
    (one.exact role) (two.exact role))

-- the test of a permission decides whether the user has it
permission_of : (state : RoleData) (name : List ℕ) (operation : Operation) (answer : Option (List Role)) →
    MatchOption answer (¬ HasAccount state.accounts name) (AreAuthorized state name)
    → Decides (option_map_or (λ set. one_permits set operation) answer false) (IsPermitted state name operation)
permission_of state name operation (Some set) are = decides_permission state name set operation are
permission_of state name operation None none = (
  λ test. absurd (false≢true test),
  λ has. let is = has.1 in absurd (none (is.0, is.1, is.2, is.3, is.4.0)),
)

pub permission_exact : (state : RoleData) (name : List ℕ) (operation : Operation) → IsValid state →
    Decides (has_permission state name operation) (HasPermission state name operation)
permission_exact state name operation valid =
    Decides-and (is_operation_of state.edition operation) _ (λ known. known, λ known. known)
    (permission_of state name operation (authorized_roles state name) (authorized_roles_exact state name valid))

-- a change that takes authorization away keeps the accounts and their names
apart_after : (state : RoleData) (change : Change) → AreApart state.accounts →
    AreApart (after_change state change).accounts
apart_after state (Deassign other role) apart = apart_changed (λ set. without_role set role) other.now state.accounts
    apart
apart_after state (DeleteInheritance senior junior) apart = apart

found_after : (state : RoleData) (change : Change) (name : List ℕ) (place : ℕ) → FoundAt state.accounts name place →
    FoundAt (after_change state change).accounts name place
found_after state (Deassign other role) name place at = found_changed (λ set. without_role set role) other.now
    state.accounts name place at
found_after state (DeleteInheritance senior junior) name place at = at

missing_after : (state : RoleData) (change : Change) (name : List ℕ) → All (λ account. account.name ≢ name)
    state.accounts → All (λ account. account.name ≢ name) (after_change state change).accounts
missing_after state (Deassign other role) name none = none_changed (λ set. without_role set role) other.now
    state.accounts name none
missing_after state (DeleteInheritance senior junior) name none = none

has_found : (accounts : List Account) (name : List ℕ) (place : ℕ) → FoundAt accounts name place →
    HasAccount accounts name
has_found accounts name place at =
    let d : Account = record { name = name; assigned = [] } in (
      place,
      get_or accounts place d,
      at.within,
      same_default accounts place (get_or accounts place d) d at.within,
      at.found d,
    )

-- what a user with an account, and one without, is authorized for after such a change
answer_after : (state : RoleData) (change : Change) (name : List ℕ) → AreApart state.accounts →
    ((place : ℕ) × FoundAt state.accounts name place) ⊎ All (λ account. account.name ≢ name) state.accounts
    → MatchOption (authorized_roles (after_change state change) name) (¬ HasAccount state.accounts name)
    (λ set. HasAccount state.accounts name × AreAuthorized (after_change state change) name set)
answer_after state change name apart (inl at) =
    let d : Account = record { name = name; assigned = [] } in
    let there = found_after state change name at.0 at.1 in
    let still = apart_after state change apart in
    subst (λ answer. MatchOption answer (¬ HasAccount state.accounts name) (λ set. HasAccount state.accounts name ×
    AreAuthorized (after_change state change) name set))
    (sym (authorized_is (after_change state change) name at.0 there still d))
    (has_found state.accounts name at.0 at.1, are_authorized (after_change state change) name at.0 there still d)
answer_after state change name apart (inr none) =
    subst (λ answer. MatchOption answer (¬ HasAccount state.accounts name) (λ set. HasAccount state.accounts name ×
    AreAuthorized (after_change state change) name set))
    (sym (none_authorized (after_change state change) name (missing_after state change name none)))
    (no_account state.accounts name none)

exact_of : (answer : Option (List Role)) (Missing There : Type 0) (P : List Role → Type 0) → MatchOption answer Missing
    (λ set. There × P set) → IfSome answer P
exact_of (Some set) Missing There P both = both.1
exact_of None Missing There P missing = tt

some_of : (answer : Option (List Role)) (Missing There : Type 0) (P : List Role → Type 0) → MatchOption answer Missing
    (λ set. There × P set) → OnSome answer There
some_of (Some set) Missing There P both = both.0
some_of None Missing There P missing = tt

none_of : (answer : Option (List Role)) (Missing There : Type 0) (P : List Role → Type 0) → MatchOption answer Missing
    (λ set. There × P set) → IfNone answer Missing
none_of (Some set) Missing There P both = tt
none_of None Missing There P missing = missing

-- so what is answered for the data after the change is exact
module _ (state : RoleData) (change : Change) (name : List ℕ) (answer : Option (List Role)) (valid : IsValid state)
    (is : answer ≡ authorized_roles (after_change state change) name) where
  answered : MatchOption answer (¬ HasAccount state.accounts name) (λ set. HasAccount state.accounts name ×
      AreAuthorized (after_change state change) name set)
  answered =
      subst (λ found. MatchOption found (¬ HasAccount state.accounts name) (λ set. HasAccount state.accounts name ×
      AreAuthorized (after_change state change) name set)) (sym is)
      (answer_after state change name valid.names (place_or_none state.accounts name))

  pub exact_after : IfSome answer (AreAuthorized (after_change state change) name)
  exact_after = exact_of answer _ _ _ answered

  pub some_after : OnSome answer (HasAccount state.accounts name)
  some_after = some_of answer _ _ _ answered

  pub none_after : IfNone answer (¬ HasAccount state.accounts name)
  none_after = none_of answer _ _ _ answered

-- an account whose role is taken away stays, where it has no such role
kept_account : (b : Bool) (account : Account) (role : Role) → IsListed account.assigned →
    (b ≡ true → has account.assigned role ≡ false) → cond b (with_roles account (without_role account.assigned role))
    account ≡ account
kept_account true account role listed absent =
    ap (with_roles account) (without_role_absent account.assigned role listed (absent refl))
kept_account false account role listed absent = refl

pub nothing_deassigned : (state : RoleData) (name : List ℕ) (role : Role) → IsValid state → ¬ IsAssigned state.accounts
    name role → deassign_user state name role ≡ state
nothing_deassigned state name role valid not_assigned =
    ap (λ (accounts : List Account). let now : RoleData = record state { accounts = accounts } in now)
    (map_fixed (changed (λ set. without_role set role) name) state.accounts (λ k d within.
    let account : Account = get_or state.accounts k d in
    kept_account (same_name account.name name) account role (valid.listed k d within)
    (λ same. false_from_ne_true (has account.assigned role)
    (λ there. not_assigned (
      k,
      account,
      within,
      same_default state.accounts k account d within,
      ((same_name_decides account.name name).0 same, there),
    )))))

pub nothing_deleted : (state : RoleData) (senior junior : Role) → ¬ Contains state.pairs (pair_of senior junior) →
    delete_inheritance state senior junior ≡ state
nothing_deleted state senior junior not_there =
    ap (λ (pairs : List Inheritance). let now : RoleData = record state { pairs = pairs } in now)
    (filter_all (λ other. not (same_inheritance other (pair_of senior junior))) state.pairs (λ k d within.
    not_from_false (same_inheritance (get_or state.pairs k d) (pair_of senior junior))
    (false_from_ne_true _ (λ same. not_there
    (k, within, same_default state.pairs k (pair_of senior junior) d within ∙ (same_pair_decides _ _).0 same)))))
