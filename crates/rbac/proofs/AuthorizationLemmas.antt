-- Who is authorized: the test that the code makes decides it.
use Rattle.std.proofs.Common.{◌≡◌, ◌≢◌, ℕ, Bool, true, List, get_or, Some, None, sym, ap, ◌∙◌}
use Rattle.std.specs.Prelude.{◌&&◌, All, option_map, slice_get}
use Rattle.std.specs.List.{list_any}
use Rattle.std.specs.Bool.{Decides}
use Rattle.std.proofs.lemmas.Bool.{and_parts, and_from}
use Rattle.std.proofs.lemmas.Bool.Decides.{Decides-at, Decides-like, Decides-and}
use Rattle.std.proofs.lemmas.List.Folds.{Any-from_list_any, list_any_at}
use Rattle.std.proofs.lemmas.Option.{get_or_from_slice_get, slice_get_within}
use Rattle.session_roles.specs.declared.role.Role.{Role}
use Rattle.session_roles.specs.declared.role.Role.TheVariants.{Member}
use Rattle.rbac.specs.declared.inheritance.Inheritance.{Inheritance}
use Rattle.rbac.specs.declared.account.Account.{Account}
use Rattle.session_roles.specs.declared.separation_set.SeparationSet.{SeparationSet}
use Rattle.session_roles.specs.Role.{roles, role_number, roles_that, has}
use Rattle.rbac.specs.Inheritance.{reaches}
use Rattle.rbac.specs.Hierarchy.{IsClosure, reached_from, is_broken_in}
use Rattle.session_roles.specs.Separation.{apart, has_both}
use Rattle.session_roles.specs.Role.{without_role}
use Rattle.rbac.specs.RoleData.{RoleData, deassign_user}
use Rattle.session_roles.specs.Operation.{permits, one_permits}
use Rattle.session_roles.specs.declared.operation.Operation.{Operation}
use Rattle.rbac.specs.Authorization.{IsPermitted, IsReached, AreAuthorized, IsBroken, reached, authorized_roles}
use Rattle.session_roles.proofs.RoleLemmas.{has_roles_that, listed_roles_that}
use Rattle.rbac.proofs.HierarchyLemmas.{at_number, number_below}
use Rattle.rbac.proofs.InheritanceLemmas.{decides_reaches}
use Rattle.rbac.proofs.ListLemmas.{decides_any}
use Rattle.rbac.proofs.AccountLemmas.{
  AreApart,
  FoundAt,
  of_the_one,
  by_the_one,
  roles_found,
  no_roles,
  changed,
  at_changed,
  apart_changed,
  found_changed,
  none_changed,
  changed_same,
  changed_other,
}

-- a test of all roles decides whether some role passes it
pub decides_role : (test : Role → Bool) → Decides (list_any test roles) ((role : Role) × (test role ≡ true))
decides_role test = (
  λ some. let w = Any-from_list_any test roles some in (w.1, w.4),
  λ one. list_any_at test roles (role_number one.0) Member (number_below one.0) (ap test (at_number one.0) ∙ one.1),
)

pub decides_is_reached : (pairs : List Inheritance) (assigned : List Role) (role : Role) →
    Decides (has (reached pairs assigned) role) (IsReached pairs assigned role)
unfolding reached
decides_is_reached pairs assigned role =
    let test : Role → Bool = λ senior. has assigned senior && reaches pairs senior role in
    Decides-at _ (list_any test roles)
    (has_roles_that (λ role. list_any (λ senior. has assigned senior && reaches pairs senior role) roles) role)
    (Decides-like (list_any test roles)
    (λ one. let parts = and_parts (has assigned one.0) (reaches pairs one.0 role) one.1 in
    (one.0, parts.0, (decides_reaches pairs one.0 role).0 parts.1))
    (λ is. (
      is.0,
      and_from (has assigned is.0) (reaches pairs is.0 role) is.1
          ((decides_reaches pairs is.0 role).1 is.2),
    ))
    (decides_role test))

-- a set of roles reaches both roles of a separation set
abbrev pub ReachesBoth : List Inheritance → List Role → SeparationSet → Type 0
ReachesBoth pairs assigned set =
    IsReached pairs assigned (apart set).0 × IsReached pairs assigned (apart set).1

pub decides_both : (pairs : List Inheritance) (assigned : List Role) (set : SeparationSet) →
    Decides (has_both (reached pairs assigned) set) (ReachesBoth pairs assigned set)
decides_both pairs assigned set =
    Decides-and _ _ (decides_is_reached pairs assigned (apart set).0) (decides_is_reached pairs assigned (apart set).1)

-- by the table of the pairs the same roles are reached
pub closure_reached : (pairs : List Inheritance) (table : List (List Role)) (assigned : List Role) →
    IsClosure pairs table → reached_from table assigned ≡ reached pairs assigned
unfolding reached
closure_reached pairs table assigned closure i =
    roles_that (λ role. list_any (λ senior. has assigned senior && closure senior role i) roles)

pub decides_broken : (state : RoleData) (table : List (List Role)) (set : SeparationSet) →
    IsClosure state.pairs table → Decides (is_broken_in table state.accounts set) (IsBroken state set)
decides_broken state table set closure =
    decides_any (λ account. has_both (reached_from table account.assigned) set)
    (λ account. ReachesBoth state.pairs account.assigned set)
    (λ account. Decides-at _ _ (ap (λ among. has_both among set)
    (closure_reached state.pairs table account.assigned closure)) (decides_both state.pairs account.assigned set))
    state.accounts

-- what `authorized` answers, by the account of the name
module _ (now : RoleData) (name : List ℕ) (place : ℕ) (at : FoundAt now.accounts name place)
    (apart : AreApart now.accounts) where
  pub authorized_is : (d : Account) → authorized_roles now name ≡ Some
      (reached now.pairs (get_or now.accounts place d).assigned)
  authorized_is d = ap (option_map (reached now.pairs)) (roles_found now.accounts name place at apart d)

  pub are_authorized : (d : Account) → AreAuthorized now name (reached now.pairs (get_or now.accounts place d).assigned)
  unfolding reached
  are_authorized d = record {
    listed = listed_roles_that _;
    exact = λ role. (
      λ there. by_the_one now.accounts name place at apart (λ account. IsReached now.pairs account.assigned role) d
          ((decides_is_reached now.pairs (get_or now.accounts place d).assigned role).0 there),
      λ is. (decides_is_reached now.pairs (get_or now.accounts place d).assigned role).1
          (of_the_one now.accounts name place at apart (λ account. IsReached now.pairs account.assigned role) d is),
    );
  }

  -- the roles that the table gives for the account
  pub by_table : (table : List (List Role)) (account : Account) → IsClosure now.pairs table →
      account ≡ get_or now.accounts place account → reached_from table account.assigned ≡ reached now.pairs
      (get_or now.accounts place account).assigned
  by_table table account closure is =
      closure_reached now.pairs table account.assigned closure
      ∙ ap (λ (account : Account). reached now.pairs account.assigned) is

-- what `authorized` answers of the user of an account, at its place
pub authorized_there : (now : RoleData) (place : ℕ) (account : Account) → AreApart now.accounts →
    slice_get now.accounts place ≡ Some account →
    authorized_roles now account.name ≡ Some (reached now.pairs account.assigned)
authorized_there now place account apart there =
    let read = get_or_from_slice_get now.accounts place account in
    let at : FoundAt now.accounts account.name place = record {
      within = slice_get_within now.accounts place account there;
      found = λ d. ap (λ (account : Account). account.name) (read d there);
    } in
    authorized_is now account.name place at apart account
    ∙ ap (λ (account : Account). Some (reached now.pairs account.assigned)) (read account there)

pub none_authorized : (now : RoleData) (name : List ℕ) → All (λ account. account.name ≢ name) now.accounts →
    authorized_roles now name ≡ None
none_authorized now name none = ap (option_map (reached now.pairs)) (no_roles now.accounts name none)

-- a set that holds just the authorized roles allows just the permissions
pub decides_permission : (now : RoleData) (name : List ℕ) (set : List Role) (operation : Operation) →
    AreAuthorized now name set → Decides (one_permits set operation) (IsPermitted now name operation)
decides_permission now name set operation are =
    Decides-like (one_permits set operation)
    (λ one. let parts = and_parts (has set one.0) (permits one.0 operation) one.1 in
    (one.0, (are.exact one.0).0 parts.0, parts.1))
    (λ some. (some.0, and_from (has set some.0) (permits some.0 operation) ((are.exact some.0).1 some.1) some.2))
    (decides_role (λ role. has set role && permits role operation))

-- with other roles or without a pair there is no further account
pub none_deassigned : (now : RoleData) (other : List ℕ) (role : Role) (name : List ℕ) →
    All (λ account. account.name ≢ name) now.accounts → authorized_roles (deassign_user now other role) name ≡ None
none_deassigned now other role name none =
    none_authorized (deassign_user now other role) name (none_changed (λ set. without_role set role) other now.accounts
    name none)

-- what is authorized after a role is taken away
module _ (now : RoleData) (name : List ℕ) (place : ℕ) (at : FoundAt now.accounts name place)
    (apart : AreApart now.accounts) (other : List ℕ) (role : Role) (d : Account) where
  at_place : authorized_roles (deassign_user now other role) name ≡ Some
      (reached now.pairs (changed (λ set. without_role set role) other (get_or now.accounts place d)).assigned)
  at_place =
      authorized_is (deassign_user now other role) name place (found_changed (λ set. without_role set role) other
      now.accounts name place at) (apart_changed (λ set. without_role set role) other now.accounts apart) d
      ∙ ap (λ (account : Account). Some (reached now.pairs account.assigned))
      (at_changed (λ set. without_role set role) other now.accounts place d d at.within)

  pub own_deassigned : other ≡ name → authorized_roles (deassign_user now other role) name ≡ Some
      (reached now.pairs (without_role (get_or now.accounts place d).assigned role))
  own_deassigned same =
      at_place ∙ ap (λ (account : Account). Some (reached now.pairs account.assigned))
      (changed_same (λ set. without_role set role) other (get_or now.accounts place d) (at.found d ∙ sym same))

  pub other_deassigned : other ≢ name → authorized_roles (deassign_user now other role) name ≡ Some
      (reached now.pairs (get_or now.accounts place d).assigned)
  other_deassigned differs =
      at_place ∙ ap (λ (account : Account). Some (reached now.pairs account.assigned))
      (changed_other (λ set. without_role set role) other (get_or now.accounts place d)
      (λ same. differs (sym same ∙ at.found d)))
