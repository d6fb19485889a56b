-- What is asked of users, roles and the hierarchy, against what the code reads.
use Rattle.std.proofs.Common.{
  ◌≡◌,
  ◌≢◌,
  ℕ,
  ◌<◌,
  Bool,
  true,
  false,
  cond,
  List,
  [],
  ◌∷◌,
  length,
  get_or,
  None,
  refl,
  sym,
  ap,
  subst,
  ◌∙◌,
}
use Rattle.std.specs.Prelude.{◌||◌, All, find, map}
use Rattle.std.specs.Bool.{Decides}
use Rattle.std.specs.List.{list_any}
use Rattle.std.proofs.lemmas.Bool.{false_from_ne_true}
use Rattle.std.proofs.lemmas.Bool.Decides.{Decides-like, same_from_decides}
use Rattle.std.proofs.lemmas.List.{same_lists}
use Rattle.session_roles.specs.declared.edition.Edition.{Edition}
use Rattle.session_roles.specs.declared.role.Role.{Role}
use Rattle.rbac.specs.declared.inheritance.Inheritance.{Inheritance}
use Rattle.rbac.specs.declared.account.Account.{Account}
use Rattle.session_roles.specs.declared.separation_set.SeparationSet.{SeparationSet}
use Rattle.session_roles.specs.Role.{has, with_role, without_role}
use Rattle.rbac.specs.Inheritance.{same_inheritance}
use Rattle.rbac.specs.Hierarchy.{IsClosure, reached_from, is_broken_in}
use Rattle.session_roles.specs.Separation.{separation_sets, has_both}
use Rattle.rbac.specs.Account.{same_name, with_change}
use Rattle.rbac.specs.RoleData.{RoleData, assign_user, deassign_user}
use Rattle.rbac.specs.Authorization.{IsBroken, IsValid, reached}
use Rattle.rbac.specs.Review.{assigned_without, has_user_for, is_broken, first_broken}
use Rattle.rbac.proofs.AccountLemmas.{FoundAt, with_roles, changed, changed_other, length_changed, at_changed, any_here}
use Rattle.rbac.proofs.AuthorizationLemmas.{ReachesBoth, closure_reached, decides_both}
use Rattle.rbac.proofs.ListLemmas.{decides_any, find_none}
use Rattle.rbac.proofs.PairLemmas.{same_pair_equivalence}
use Rattle.rbac.proofs.ValidityLemmas.{breaks_itself}

-- the two orders in which pairs are compared
pub either_way : (pairs : List Inheritance) (pair : Inheritance) → list_any (λ other. same_inheritance other pair) pairs
    ≡ list_any (same_inheritance pair) pairs
either_way pairs pair = ap (λ test. list_any test pairs) (λ i other. same_pair_equivalence.symm other pair i)

pub any_made : {X Y : Type 0} (f : X → Y) (p : Y → Bool) (xs : List X) → list_any (λ x. p (f x)) xs ≡ list_any p
    (map f xs)
any_made f p [] = refl
any_made f p (x ∷ xs) = ap (λ b. p (f x) || b) (any_made f p xs)

-- the test of a separation set decides whether it is broken
pub decides_is_broken : (state : RoleData) (set : SeparationSet) → Decides (is_broken state set) (IsBroken state set)
decides_is_broken state set =
    decides_any (λ account. has_both (reached state.pairs account.assigned) set)
    (λ account. ReachesBoth state.pairs account.assigned set)
    (λ account. decides_both state.pairs account.assigned set) state.accounts

-- no set is broken
pub none_broken : (state : RoleData) → IsValid state → first_broken state ≡ None
none_broken state valid =
    find_none (is_broken state) separation_sets
    (λ k d below. false_from_ne_true (is_broken state (get_or separation_sets k d))
    (λ is. valid.separate (get_or separation_sets k d) ((decides_is_broken state (get_or separation_sets k d)).0
    is)))

-- where no account has the name, a change of its roles changes nothing
unchanged : (change : List Role → List Role) (name : List ℕ) (accounts : List Account) →
    All (λ account. account.name ≢ name) accounts → with_change change name accounts ≡ accounts
unchanged change name accounts none =
    same_lists (with_change change name accounts) accounts (length_changed change name accounts)
    (λ k d below.
    let within : k < length accounts = subst (λ n. k < n) (length_changed change name accounts) below in
    at_changed change name accounts k d d within ∙ changed_other change name (get_or accounts k d) (none k d within))

pub nobody_breaks : (state : RoleData) (name : List ℕ) (role : Role) → IsValid state →
    All (λ account. account.name ≢ name) state.accounts → None ≡ first_broken (assign_user state name role)
nobody_breaks state name role valid none =
    sym (ap (λ accounts. first_broken (record state { accounts = accounts }))
    (unchanged (λ set. with_role set role) name state.accounts none) ∙ none_broken state valid)

-- a role that is assigned to the user at a place: just those sets are broken that the user breaks
pub breaks_alone : (state : RoleData) (name : List ℕ) (role : Role) (place : ℕ) → FoundAt state.accounts name place →
    IsValid state → (d : Account) →
    find (has_both (reached state.pairs (with_role (get_or state.accounts place d).assigned role))) separation_sets ≡
    first_broken (assign_user state name role)
breaks_alone state name role place at valid d =
    let more : List Role = with_role (get_or state.accounts place d).assigned role in
    ap (λ test. find test separation_sets)
    (λ i set. same_from_decides (has_both (reached state.pairs more) set) (is_broken (assign_user state name role) set)
    (decides_both state.pairs more set)
    (Decides-like (is_broken (assign_user state name role) set)
    (λ broken. breaks_itself state (λ set. with_role set role) name place at valid d set broken)
    (λ both. any_here (λ set. with_role set role) name state.accounts place at valid.names d
    (λ account. ReachesBoth state.pairs account.assigned set) both)
    (decides_is_broken (assign_user state name role) set)) i)

-- what the table of a hierarchy says
module _ (pairs : List Inheritance) (table : List (List Role)) (closure : IsClosure pairs table)
    (accounts : List Account) (edition : Edition) where
  pub broken_by_table : find (is_broken_in table accounts) separation_sets ≡ first_broken
      (record { accounts = accounts; pairs = pairs; edition = edition })
  broken_by_table i =
      find (λ set. list_any (λ account. has_both (closure_reached pairs table account.assigned closure i) set) accounts)
      separation_sets

  pub user_by_table : (role : Role) → list_any (λ account. has (reached_from table account.assigned) role) accounts ≡
      has_user_for (record { accounts = accounts; pairs = pairs; edition = edition }) role
  user_by_table role i = list_any (λ account. has (closure_reached pairs table account.assigned closure i) role)
      accounts

  pub user_without : (role : Role) (name : List ℕ) (taken : Role) →
      list_any (λ account. has (reached_from table (assigned_without account name taken)) role) accounts
      ≡ has_user_for (deassign_user (record { accounts = accounts; pairs = pairs; edition = edition }) name taken) role
  user_without role name taken =
      (λ i. list_any (λ account. has (closure_reached pairs table (assigned_without account name taken) closure i) role)
      accounts)
      ∙ ap (λ test. list_any test accounts) (λ i account. by_name (same_name account.name name) account i)
      ∙ any_made (changed (λ set. without_role set taken) name) (λ account. has (reached pairs account.assigned) role)
      accounts
    where
      by_name : (b : Bool) (account : Account) →
          has (reached pairs (cond b (without_role account.assigned taken) account.assigned)) role
          ≡ has (reached pairs (cond b (with_roles account (without_role account.assigned taken)) account).assigned)
          role
      by_name true account = refl
      by_name false account = refl
