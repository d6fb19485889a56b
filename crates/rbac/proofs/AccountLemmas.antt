-- Accounts: the one of a name, and what changes with its assigned roles.
use Rattle.std.proofs.Common.{
  ◌≡◌,
  ◌≢◌,
  ℕ,
  ◌<◌,
  Bool,
  true,
  false,
  cond,
  List,
  [],
  length,
  get_or,
  set,
  Some,
  None,
  inl,
  inr,
  refl,
  sym,
  ap,
  subst,
  ◌∙◌,
  arith,
}
use Rattle.std.specs.Prelude.{◌⊎◌, All, option_map}
use Rattle.std.specs.List.{Any, AllPairs, HoldsAt}
use Rattle.std.specs.Bool.{Decides}
use Rattle.std.specs.Cmp.Lexicographic.{pointwise_decides}
use Rattle.std.proofs.lemmas.Bool.{cases_order, cases_eq, false_from_ne_true, false≢true}
use Rattle.std.proofs.lemmas.Bool.Decides.{Decides-eqb}
use Rattle.std.proofs.lemmas.List.{
  same_lists,
  length-map,
  length-set,
  get_or-map,
  get_or-set_same,
  get_or-set_other,
  get_or_default,
}
use Rattle.session_roles.specs.declared.role.Role.{Role}
use Rattle.rbac.specs.declared.account.Account.{Account}
use Rattle.rbac.specs.Account.{same_name, HasAccount, assigned_roles, with_change}
use Rattle.rbac.proofs.ListLemmas.{find_first, find_none}

pub same_name_decides : (a b : List ℕ) → Decides (same_name a b) (a ≡ b)
same_name_decides = pointwise_decides Decides-eqb

not_same : (a b : List ℕ) → a ≢ b → same_name a b ≡ false
not_same a b differ = false_from_ne_true (same_name a b) (λ same. differ ((same_name_decides a b).0 same))

-- names that differ
abbrev pub AreApart : List Account → Type 0
AreApart accounts = AllPairs (λ account other. account.name ≢ other.name) accounts

-- no account has the name
pub no_account : (accounts : List Account) (name : List ℕ) → All (λ account. account.name ≢ name) accounts →
    ¬ HasAccount accounts name
no_account accounts name none some =
    none some.0 some.1 some.2 (ap (λ (account : Account). account.name) some.3 ∙ some.4)

pub no_roles : (accounts : List Account) (name : List ℕ) → All (λ account. account.name ≢ name) accounts →
    assigned_roles accounts name ≡ None
unfolding assigned_roles
no_roles accounts name none =
    ap (option_map (λ (account : Account). account.assigned))
    (find_none (λ (account : Account). same_name account.name name) accounts
    (λ k d below. not_same _ _ (none k d below)))

-- the account of a name stands at a place
pub record FoundAt (accounts : List Account) (name : List ℕ) (place : ℕ) : Type 0 where
  pub within : place < length accounts
  pub found : HoldsAt (λ account. account.name ≡ name) accounts place

pub found_at : (read accounts : List Account) (name : List ℕ) (place : ℕ) → read ≡ accounts → place < length read →
    HoldsAt (λ account. account.name ≡ name) read place → FoundAt accounts name place
found_at read accounts name place same within found =
    subst (λ list. FoundAt list name place) same (record { within = within; found = found })

-- an account with other roles
abbrev pub with_roles : Account → List Role → Account
with_roles account roles = record { name = account.name; assigned = roles }

abbrev pub changed : (List Role → List Role) → List ℕ → Account → Account
changed change name account =
    cond (same_name account.name name) (with_roles account (change account.assigned)) account

named_as : (b : Bool) (account : Account) (roles : List Role) → (cond b (with_roles account roles) account).name ≡
    account.name
named_as true account roles = refl
named_as false account roles = refl

-- a change keeps each name
pub name_kept : (change : List Role → List Role) (name : List ℕ) (account : Account) →
    (changed change name account).name ≡ account.name
name_kept change name account = named_as (same_name account.name name) account (change account.assigned)

pub same_default : {X : Type 0} (xs : List X) (i : ℕ) (d e : X) → i < length xs → get_or xs i d ≡ get_or xs i e
same_default xs i d e within = get_or_default xs i d e within

-- the account of a name, at its place
module _ (accounts : List Account) (name : List ℕ) (place : ℕ) (at : FoundAt accounts name place)
    (apart : AreApart accounts) where
  only_in : (k : ℕ) (d : Account) → k < length accounts → (get_or accounts k d).name ≡ name → (k ≡ place) ⊎
      ((k < place) ⊎ (place < k)) → k ≡ place
  only_in k d below same (inl e) = e
  only_in k d below same (inr (inl before)) = absurd (apart k place d before at.within (same ∙ sym (at.found d)))
  only_in k d below same (inr (inr behind)) = absurd (apart place k d behind below (at.found d ∙ sym same))

  -- there is no other
  pub only : (k : ℕ) (d : Account) → k < length accounts → (get_or accounts k d).name ≡ name → k ≡ place
  only k d below same = only_in k d below same (cases_order k place)

  elsewhere : (k : ℕ) → k < place → k ≢ place
  elsewhere k before same = absurd (omega arith)

  -- what is true of some account of the name is true of this one
  pub of_the_one : (Q : Account → Type 0) (d : Account) → Any (λ account. (account.name ≡ name) × Q account) accounts →
      Q (get_or accounts place d)
  of_the_one Q d some =
      let here = only some.0 some.1 some.2 (ap (λ (account : Account). account.name) some.3 ∙ some.4.0) in
      subst Q (sym some.3 ∙ ap (λ k. get_or accounts k some.1) here ∙ same_default accounts place some.1 d at.within)
      some.4.1

  pub by_the_one : (Q : Account → Type 0) (d : Account) → Q (get_or accounts place d) →
      Any (λ account. (account.name ≡ name) × Q account) accounts
  by_the_one Q d holds = (
    place,
    get_or accounts place d,
    at.within,
    same_default accounts place (get_or accounts place d) d at.within,
    (at.found d, holds),
  )

  pub has_account : HasAccount accounts name
  has_account = let d : Account = record { name = name; assigned = [] } in (
    place,
    get_or accounts place d,
    at.within,
    same_default accounts place (get_or accounts place d) d at.within,
    at.found d,
  )

  pub roles_found : (d : Account) → assigned_roles accounts name ≡ Some (get_or accounts place d).assigned
  unfolding assigned_roles
  roles_found d =
      ap (option_map (λ (account : Account). account.assigned))
      (find_first (λ (account : Account). same_name account.name name) accounts place d at.within
      ((same_name_decides _ _).1 (at.found d))
      (λ k before. not_same _ _ (λ same. elsewhere k before (only k d (omega (arith, at.within)) same))))

-- accounts after a change, place by place
module _ (change : List Role → List Role) (name : List ℕ) (accounts : List Account) where
  pub length_changed : length (with_change change name accounts) ≡ length accounts
  length_changed = length-map accounts (changed change name)

  pub at_changed : (k : ℕ) (d e : Account) → k < length accounts → get_or (with_change change name accounts) k e ≡
      changed change name (get_or accounts k d)
  at_changed k d e within = get_or-map (changed change name) accounts k d e within

  name_at : (k : ℕ) (d : Account) → k < length accounts → (get_or (with_change change name accounts) k d).name ≡
      (get_or accounts k d).name
  name_at k d within =
      ap (λ (account : Account). account.name) (at_changed k d d within) ∙ name_kept change name (get_or accounts k d)

  pub apart_changed : AreApart accounts → AreApart (with_change change name accounts)
  apart_changed apart i j d before within same =
      let below : j < length accounts = subst (λ n. j < n) length_changed within in
      apart i j d before below (sym (name_at i d (omega arith)) ∙ same ∙ name_at j d below)

  pub found_changed : (other : List ℕ) (place : ℕ) → FoundAt accounts other place →
      FoundAt (with_change change name accounts) other place
  found_changed other place at = record {
    within = subst (λ n. place < n) (sym length_changed) at.within;
    found = λ d. name_at place d at.within ∙ at.found d;
  }

  pub none_changed : (other : List ℕ) → All (λ account. account.name ≢ other) accounts →
      All (λ account. account.name ≢ other) (with_change change name accounts)
  none_changed other none k d within same =
      let below : k < length accounts = subst (λ n. k < n) length_changed within in
      none k d below (sym (name_at k d below) ∙ same)

-- the account of the name gets its roles changed, and another account stays
pub changed_same : (change : List Role → List Role) (name : List ℕ) (account : Account) → account.name ≡ name →
    changed change name account ≡ with_roles account (change account.assigned)
changed_same change name account same =
    ap (λ b. cond b (with_roles account (change account.assigned)) account)
    ((same_name_decides account.name name).1 same)

pub changed_other : (change : List Role → List Role) (name : List ℕ) (account : Account) → account.name ≢ name →
    changed change name account ≡ account
changed_other change name account differs =
    ap (λ b. cond b (with_roles account (change account.assigned)) account) (not_same account.name name differs)

-- what some account has after a change, some account had before, or the changed one has
module _ (change : List Role → List Role) (name : List ℕ) (accounts : List Account) (place : ℕ)
    (at : FoundAt accounts name place) (apart : AreApart accounts) (d : Account) (P : Account → Type 0) where
  one_changed : (k : ℕ) (x : Account) → k < length accounts → P (changed change name (get_or accounts k x)) →
      (same : Bool) → same ≡ same_name (get_or accounts k x).name name → Any P accounts ⊎
      P (with_roles (get_or accounts place d) (change (get_or accounts place d).assigned))
  one_changed k x within holds true same =
      let named = (same_name_decides (get_or accounts k x).name name).0 (sym same) in
      let here = only accounts name place at apart k x within named in
      let is : get_or accounts k x ≡ get_or accounts place d = ap (λ n. get_or accounts n x) here ∙ same_default
      accounts place x d at.within in
      inr (subst (λ account. P (with_roles account (change account.assigned))) is
      (subst P (changed_same change name (get_or accounts k x) named) holds))
  one_changed k x within holds false same =
      let other = changed_other change name (get_or accounts k x)
      (λ named. false≢true (same ∙ (same_name_decides (get_or accounts k x).name name).1 named)) in
      inl (k, get_or accounts k x, within, same_default accounts k (get_or accounts k x) x within, subst P other holds)

  pub any_changed : Any P (with_change change name accounts) → Any P accounts ⊎
      P (with_roles (get_or accounts place d) (change (get_or accounts place d).assigned))
  any_changed some =
      let below : some.0 < length accounts = subst (λ n. some.0 < n) (length_changed change name accounts) some.2 in
      one_changed some.0 some.1 below
      (subst P (sym some.3 ∙ at_changed change name accounts some.0 some.1 some.1 below) some.4)
      (same_name (get_or accounts some.0 some.1).name name) refl

  pub any_here : P (with_roles (get_or accounts place d) (change (get_or accounts place d).assigned)) →
      Any P (with_change change name accounts)
  any_here holds =
      let account : Account = with_roles (get_or accounts place d) (change (get_or accounts place d).assigned) in (
        place,
        account,
        subst (λ n. place < n) (sym (length_changed change name accounts)) at.within,
        at_changed change name accounts place d account at.within ∙ changed_same change name (get_or accounts place d)
            (at.found d),
        holds,
      )

-- a change is a write at the place of the account
module _ (change : List Role → List Role) (name : List ℕ) (accounts : List Account) (place : ℕ)
    (at : FoundAt accounts name place) (apart : AreApart accounts) (d : Account) where
  each_written : (k : ℕ) (e : Account) → k < length accounts → (k ≡ place) ⊎ (k ≢ place) →
      get_or (with_change change name accounts) k e ≡ get_or
      (set accounts place (with_roles (get_or accounts place d) (change (get_or accounts place d).assigned))) k e
  each_written k e within (inl here) =
      let value : Account = with_roles (get_or accounts place d) (change (get_or accounts place d).assigned) in
      ap (λ n. get_or (with_change change name accounts) n e) here
      ∙ at_changed change name accounts place d e at.within ∙ changed_same change name (get_or accounts place d)
      (at.found d)
      ∙ sym (ap (λ n. get_or (set accounts place value) n e) here ∙ get_or-set_same accounts place value e at.within)
  each_written k e within (inr elsewhere) =
      let value : Account = with_roles (get_or accounts place d) (change (get_or accounts place d).assigned) in
      at_changed change name accounts k e e within
      ∙ changed_other change name (get_or accounts k e)
      (λ named. elsewhere (only accounts name place at apart k e within named))
      ∙ sym (get_or-set_other accounts place k value e elsewhere)

  pub change_is_write : with_change change name accounts ≡ set accounts place (with_roles (get_or accounts place d)
      (change (get_or accounts place d).assigned))
  change_is_write =
      let value : Account = with_roles (get_or accounts place d) (change (get_or accounts place d).assigned) in
      same_lists (with_change change name accounts) (set accounts place value)
      (length_changed change name accounts ∙ sym (length-set accounts place value))
      (λ k e within. each_written k e (subst (λ n. k < n) (length_changed change name accounts) within)
      (cases_eq k place))
