-- No user has two seats, and who has one has an account: what keeps that so, and that there is then room for a seat.
use Rattle.std.proofs.Common.{
  ◌≡◌,
  ℕ,
  ◌≤◌,
  Bool,
  true,
  false,
  List,
  [],
  ◌∷◌,
  ◌++◌,
  length,
  inl,
  inr,
  refl,
  sym,
  ap,
  subst,
  ◌∙◌,
  arith,
}
use Rattle.std.specs.Prelude.{◌||◌, ◌⊎◌, cond, not, map, filter}
use Rattle.std.specs.List.{list_any, AllByRecursion, IsDistinct}
use Rattle.std.specs.Cmp.{IsEquivalence, on_equiv, nat_eq_equiv}
use Rattle.std.specs.Cmp.Lexicographic.{lists_equiv}
use Rattle.std.proofs.lemmas.Bool.{or_cases, or_left, false≢true}
use Rattle.std.proofs.lemmas.List.{length-map}
use Rattle.std.proofs.lemmas.List.Folds.{list_any-append}
use Rattle.std.proofs.lemmas.Map.Keys.{IsDistinct-push}
use Rattle.std.proofs.lemmas.Map.Made.{length-le_from_is_member}
use Rattle.rbac.specs.Account.{same_name, new_account, with_change}
use Rattle.rbac.specs.RoleData.{RoleData, add_user}
use Rattle.session_roles.specs.declared.role.Role.{Role}
use Rattle.rbac.specs.declared.account.Account.{Account}
use Rattle.rbac.proofs.AccountLemmas.{same_name_decides, changed, name_kept}
use Rattle.rbac.proofs.ListLemmas.{distinct_filter}
use Rattle.rbac.proofs.ReviewLemmas.{any_made}
use Rattle.session_state.specs.declared.seated.Seated.{Seated}
use Rattle.session_state.specs.Accounts.{has_account}
use Rattle.session_state.specs.Seats.{has_seat, same_user, without_seat, AreSeated}

same_name_equiv : IsEquivalence same_name
same_name_equiv = lists_equiv nat_eq_equiv

same_user_equiv : IsEquivalence same_user
same_user_equiv = on_equiv (λ (seated : Seated). seated.name) same_name_equiv

-- what a filter keeps was there
kept : {X : Type 0} (p q : X → Bool) (xs : List X) → list_any p (filter q xs) ≡ true → list_any p xs ≡ true
kept p q [] there = there
kept {X} p q (x ∷ xs) there = by_test (q x) (kept p q xs) there
  where
    first_of_all : (b : Bool) → (b ≡ true) → (b || list_any p xs) ≡ true
    first_of_all b same = ap (λ b. b || list_any p xs) same

    later : (b : Bool) → list_any p xs ≡ true → (b || list_any p xs) ≡ true
    later true same = refl
    later false same = same

    by_test : (b : Bool) → (list_any p (filter q xs) ≡ true → list_any p xs ≡ true) →
        list_any p (cond b (x ∷ filter q xs) (filter q xs)) ≡ true → (p x || list_any p xs) ≡ true
    by_test true rest some =
        elim (or_cases (p x) (list_any p (filter q xs)) some) [
          | inl here ↦ first_of_all (p x) here
          | inr behind ↦ later (p x) (rest behind)
        ]
    by_test false rest some = later (p x) (rest some)

-- one user takes a seat
pub one_more_sits : (roles : RoleData) (seats : List Seated) (seated : Seated) → AreSeated roles seats →
    has_account roles seated.name ≡ true → has_seat seats seated.name ≡ false → AreSeated roles (seats ++ seated ∷ [])
one_more_sits roles seats seated are account free = record {
  once = IsDistinct-push same_user_equiv seats seated are.once
      (ap (λ test. list_any test seats) (λ i (other : Seated). same_name_equiv.symm seated.name other.name i) ∙ free);
  users = λ name there. by_place name (or_cases (has_seat seats name) (has_seat (seated ∷ []) name)
      (sym (list_any-append (λ (seated : Seated). same_name seated.name name) seats (seated ∷ [])) ∙ there));
}
  where
    by_place : (name : List ℕ) → (has_seat seats name ≡ true) ⊎ (has_seat (seated ∷ []) name ≡ true) →
        has_account roles name ≡ true
    by_place name (inl before) = are.users name before
    by_place name (inr new) =
        elim (or_cases (same_name seated.name name) false new) [
          | inl same ↦ subst (λ name. has_account roles name ≡ true) ((same_name_decides seated.name name).0 same)
              account
          | inr never ↦ absurd (false≢true never)
        ]

-- one user leaves a seat
pub one_less_sits : (roles : RoleData) (seats : List Seated) (name : List ℕ) → AreSeated roles seats → AreSeated roles
    (without_seat seats name)
one_less_sits roles seats name are = record {
  once = distinct_filter same_user (λ (seated : Seated). not (same_name seated.name name)) seats are.once;
  users = λ other there. are.users other (kept (λ (seated : Seated). same_name seated.name other)
      (λ (seated : Seated). not (same_name seated.name name)) seats there);
}

-- who had an account still has one
pub still_seated : (old new : RoleData) (seats : List Seated) → AreSeated old seats →
    ((name : List ℕ) → has_account old name ≡ true → has_account new name ≡ true) → AreSeated new seats
still_seated old new seats are keeps = record {
  once = are.once;
  users = λ name there. keeps name (are.users name there);
}

names_apart : (seated : Seated) (seats : List Seated) → AllByRecursion (λ (other : Seated). same_user seated other ≡
    false) seats →
    AllByRecursion (λ name. same_name seated.name name ≡ false) (map (λ (seated : Seated). seated.name) seats)
names_apart seated [] apart = apart
names_apart seated (other ∷ seats) apart = (apart.0, names_apart seated seats apart.1)

names_once : (seats : List Seated) → IsDistinct same_user seats → IsDistinct same_name
    (map (λ (seated : Seated). seated.name) seats)
unfolding IsDistinct
names_once [] once = once
names_once (seated ∷ seats) once = (names_apart seated seats once.0, names_once seats once.1)

-- there are no more seats than users
pub seats_are_few : (roles : RoleData) (seats : List Seated) → AreSeated roles seats → length seats ≤ length
    roles.accounts
seats_are_few roles seats are =
    let sitting : List (List ℕ) = map (λ (seated : Seated). seated.name) seats in
    let users : List (List ℕ) = map (λ (account : Account). account.name) roles.accounts in
    let few : length sitting ≤ length users = length-le_from_is_member same_name_equiv sitting users
    (names_once seats are.once) (λ q there.
    sym (any_made (λ (account : Account). account.name) (same_name q) roles.accounts)
    ∙ ap (λ test. list_any test roles.accounts) (λ i (account : Account). same_name_equiv.symm q account.name i)
    ∙ are.users q (ap (λ test. list_any test seats) (λ i (seated : Seated). same_name_equiv.symm seated.name q i)
    ∙ any_made (λ (seated : Seated). seated.name) (same_name q) seats ∙ there)) in
    omega (
      arith,
      length-map seats (λ (seated : Seated). seated.name),
      length-map roles.accounts
          (λ (account : Account). account.name),
    )

-- a change of assigned roles takes no account away, and adding a user takes none away
pub accounts_kept : (change : List Role → List Role) (roles : RoleData) (name other : List ℕ) →
    has_account (record roles { accounts = with_change change name roles.accounts }) other ≡ has_account roles other
accounts_kept change roles name other =
    sym (any_made (changed change name) (λ (account : Account). same_name account.name other) roles.accounts)
    ∙ ap (λ test. list_any test roles.accounts) (λ i (account : Account). same_name (name_kept change name account i)
    other)

pub accounts_added : (roles : RoleData) (name other : List ℕ) → has_account roles other ≡ true →
    has_account (add_user roles name) other ≡ true
accounts_added roles name other there =
    list_any-append (λ (account : Account). same_name account.name other) roles.accounts (new_account name ∷ [])
    ∙ or_left _ _ there

pub seated_changed : (change : List Role → List Role) (roles : RoleData) (name : List ℕ) (seats : List Seated) →
    AreSeated roles seats →
    AreSeated (record roles { accounts = with_change change name roles.accounts }) seats
seated_changed change roles name seats are =
    still_seated roles (record roles { accounts = with_change change name roles.accounts }) seats are
    (λ other there. accounts_kept change roles name other ∙ there)

pub seated_added : (roles : RoleData) (name : List ℕ) (seats : List Seated) → AreSeated roles seats →
    AreSeated (add_user roles name) seats
seated_added roles name seats are = still_seated roles (add_user roles name) seats are (accounts_added roles name)
