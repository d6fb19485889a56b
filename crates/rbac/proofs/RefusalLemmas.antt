-- What a change that nothing refuses finds, and makes.
use Rattle.std.proofs.Common.{◌≡◌, ℕ, ◌<◌, true, false, List, length, get_or, set, Option, inl, inr, sym, ap, ◌∙◌}
use Rattle.std.specs.Prelude.{◌&&◌, not, Contains, find}
use Rattle.std.specs.Bool.{Decides}
use Rattle.std.specs.List.{list_any}
use Rattle.std.proofs.lemmas.Bool.{and_parts, cases_lt, false_from_ne_true, true_from_ne_false}
use Rattle.session_roles.specs.declared.role.Role.{Role}
use Rattle.rbac.specs.declared.inheritance.Inheritance.{Inheritance}
use Rattle.rbac.specs.declared.account.Account.{Account}
use Rattle.session_roles.specs.declared.separation_set.SeparationSet.{SeparationSet}
use Rattle.rbac.specs.declared.add_user_error.AddUserError.{AddUserError}
use Rattle.rbac.specs.declared.add_user_error.AddUserError.TheVariants.{BadName, UserExists, TooManyUsers}
use Rattle.rbac.specs.declared.assign_error.AssignError.TheVariants.{Separation}
use Rattle.rbac.specs.declared.deassign_error.DeassignError.TheVariants as deassign
use Rattle.rbac.specs.declared.add_inheritance_error.AddInheritanceError.TheVariants as inheritance
use Rattle.session_roles.specs.Role.{has, same_role, with_role, without_role}
use Rattle.rbac.specs.Inheritance.{same_inheritance}
use Rattle.rbac.specs.Hierarchy.{IsClosure, reach, reached_from}
use Rattle.session_roles.specs.Separation.{separation_sets, has_both}
use Rattle.rbac.specs.Account.{most_users, with_change}
use Rattle.rbac.specs.RoleData.{RoleData, add_user, assign_user, deassign_user}
use Rattle.rbac.specs.Authorization.{IsReached, IsValid, reached}
use Rattle.rbac.specs.Refusals.{RefusesUser}
use Rattle.session_roles.proofs.RoleLemmas.{listed_roles_that, has_roles_that}
use Rattle.rbac.proofs.AccountLemmas.{FoundAt, AreApart, change_is_write, same_default}
use Rattle.rbac.proofs.AuthorizationLemmas.{closure_reached}
use Rattle.rbac.proofs.ListLemmas.{decides_contains}
use Rattle.rbac.proofs.PairLemmas.{same_pair_decides, same_pair_equivalence}
use Rattle.rbac.proofs.ValidityLemmas.{valid_change, valid_add_user}

-- the first set that a search by the table names is the one of the roles
pub searched : (state : RoleData) (table : List (List Role)) (place : ℕ) (account : Account) (role : Role)
    (more among : List Role) (answer : Option SeparationSet)
    → IsClosure state.pairs table → account ≡ get_or state.accounts place account → more ≡ with_role account.assigned
    role → among ≡ reached_from table more → answer ≡ find (has_both among) separation_sets
    → answer ≡ find (has_both (reached state.pairs (with_role (get_or state.accounts place account).assigned role)))
    separation_sets
searched state table place account role more among answer closure is wider reach found =
    found
    ∙ ap (λ (among : List Role). find (has_both among) separation_sets) (reach ∙ closure_reached state.pairs table more
    closure ∙ ap (reached state.pairs) (wider ∙ ap (λ (account : Account). with_role account.assigned role) is))

-- the account that is written at a place is the one of the name, changed
pub write_is_change : (change : List Role → List Role) (name : List ℕ) (accounts : List Account) (place : ℕ)
    (at : FoundAt accounts name place) (apart : AreApart accounts) (read kept : Account) (roles : List Role)
    → read ≡ get_or accounts place read → kept ≡ get_or accounts place kept → roles ≡ change read.assigned →
    set accounts place (record { name = kept.name; assigned = roles }) ≡ with_change change name accounts
write_is_change change name accounts place at apart read kept roles is stays now =
    let same : kept ≡ get_or accounts place read = stays ∙ same_default accounts place kept read at.within in
    let new : roles ≡ change (get_or accounts place read).assigned =
    now ∙ ap (λ (account : Account). change account.assigned) is in
    (λ i. set accounts place (record { name = (same i).name; assigned = new i }))
    ∙ sym (change_is_write change name accounts place at apart read)

-- taking a role away from the user at a place
still_has : (set : List Role) (role other : Role) → has (without_role set role) other ≡ true → has set other ≡ true
still_has set role other there =
    (and_parts (not (same_role role other)) (has set other)
    (sym (has_roles_that (λ other. not (same_role role other) && has set other) other) ∙ there)).1

fewer_reached : (pairs : List Inheritance) (assigned : List Role) (role other : Role) → IsReached pairs
    (without_role assigned role) other → IsReached pairs assigned other
fewer_reached pairs assigned role other is = (is.0, still_has assigned role is.0 is.1, is.2)

module _ (state : RoleData) (name : List ℕ) (role : Role) (place : ℕ) (at : FoundAt state.accounts name place)
    (valid : IsValid state) (d : Account) where
  pub valid_deassignment : IsValid (deassign_user state name role)
  valid_deassignment =
      let account : Account = get_or state.accounts place d in
      valid_change state (λ set. without_role set role) name place at valid d (λ set. listed_roles_that _)
      (λ set broken. valid.separate set (
        place,
        account,
        at.within,
        same_default state.accounts place account d at.within,
        (
          fewer_reached state.pairs account.assigned role _ broken.0,
          fewer_reached state.pairs account.assigned role _
              broken.1,
        ),
      ))

pub decides_there : (pairs : List Inheritance) (pair : Inheritance) →
    Decides (list_any (λ other. same_inheritance other pair) pairs) (Contains pairs pair)
decides_there pairs pair = decides_contains same_inheritance same_pair_decides pairs pair

-- the two orders in which pairs are compared
pub not_there : (pairs : List Inheritance) (pair : Inheritance) → list_any (λ other. same_inheritance other pair) pairs
    ≡ false → list_any (same_inheritance pair) pairs ≡ false
not_there pairs pair no_such = ap (λ test. list_any test pairs) (λ i other. same_pair_equivalence.symm pair other i)
    ∙ no_such

-- a pair that isn't among them is found nowhere
pub absent_pair : (pairs : List Inheritance) (pair : Inheritance) → ¬ Contains pairs pair →
    list_any (same_inheritance pair) pairs ≡ false
absent_pair pairs pair new =
    not_there pairs pair (false_from_ne_true _ (λ there. new ((decides_there pairs pair).0 there)))

-- a user whom nothing refuses has a proper name, which is nobody else's, and there is room
module _ (state : RoleData) (name : List ℕ) (valid : IsValid state) (unrefused : (cause : AddUserError) →
    ¬ RefusesUser state name cause) where
  pub room_for_another : length state.accounts < most_users
  room_for_another =
      elim (cases_lt (length state.accounts) most_users) [
        | inl below ↦ below
        | inr full ↦ absurd (unrefused TooManyUsers full)
      ]

  pub valid_added : IsValid (add_user state name)
  valid_added =
      valid_add_user state name valid (true_from_ne_false _ (unrefused BadName))
      (λ k d within same. unrefused UserExists (
        k,
        get_or state.accounts k d,
        within,
        same_default state.accounts k
            (get_or state.accounts k d) d within,
        same,
      ))
      room_for_another
