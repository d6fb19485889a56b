-- What is true of users and roles at all times stays true under each change.
use Rattle.std.proofs.Common.{
  ◌≡◌,
  ◌≢◌,
  ℕ,
  ◌<◌,
  ◌≤◌,
  Bool,
  true,
  false,
  cond,
  List,
  [],
  length,
  get_or,
  inl,
  inr,
  refl,
  sym,
  subst,
  arith,
}
use Rattle.std.specs.Prelude.{◌⊎◌, All}
use Rattle.std.specs.List.{list_any}
use Rattle.std.proofs.lemmas.Bool.{false≢true}
use Rattle.std.proofs.lemmas.List.{length_push}
use Rattle.std.proofs.lemmas.List.Elements.{All-nil, All-push, All-map}
use Rattle.std.proofs.lemmas.List.Quantifiers.{all_pairs_push}
use Rattle.std.proofs.lemmas.Map.Keys.{IsDistinct-push}
use Rattle.session_roles.specs.declared.edition.Edition.{Edition}
use Rattle.session_roles.specs.declared.role.Role.{Role}
use Rattle.rbac.specs.declared.inheritance.Inheritance.{Inheritance}
use Rattle.rbac.specs.declared.account.Account.{Account}
use Rattle.session_roles.specs.declared.separation_set.SeparationSet.{SeparationSet}
use Rattle.session_roles.specs.Role.{roles_that, IsListed, with_role}
use Rattle.session_roles.proofs.RoleLemmas.{listed_roles_that}
use Rattle.rbac.specs.Inheritance.{Reaches, pair_of, same_inheritance, without_pair}
use Rattle.session_roles.specs.Separation.{apart}
use Rattle.rbac.specs.Account.{most_users, is_user_name, same_name, new_account, with_change}
use Rattle.rbac.specs.RoleData.{RoleData, opening_data, add_user, assign_user, add_inheritance, delete_inheritance}
use Rattle.rbac.specs.Authorization.{IsReached, IsBroken, KeepsSeparation, IsValid}
use Rattle.rbac.proofs.InheritanceLemmas.{acyclic_push, acyclic_without, reaches_without}
use Rattle.rbac.proofs.ListLemmas.{Any-push_cases, distinct_filter}
use Rattle.rbac.proofs.AccountLemmas.{
  FoundAt,
  with_roles,
  changed,
  name_kept,
  any_changed,
  apart_changed,
  length_changed,
}
use Rattle.rbac.proofs.AuthorizationLemmas.{ReachesBoth}
use Rattle.rbac.proofs.PairLemmas.{same_pair_equivalence, opening_acyclic, opening_once}

-- no role
pub listed_none : IsListed []
unfolding roles_that
listed_none = refl

pub valid_opening : (edition : Edition) → IsValid (opening_data edition)
valid_opening edition = record {
  named = All-nil (λ account. is_user_name account.name ≡ true);
  listed = All-nil (λ account. IsListed account.assigned);
  names = λ i j d before within. absurd (omega arith);
  few = omega arith;
  once = opening_once edition;
  acyclic = opening_acyclic edition;
  separate = λ set broken. absurd (omega (arith, broken.2));
}

-- a new user is authorized for nothing
new_breaks : (state : RoleData) (name : List ℕ) (set : SeparationSet) → IsValid state → IsBroken state set ⊎
    ReachesBoth state.pairs [] set → ⊥
new_breaks state name set valid (inl old) = valid.separate set old
new_breaks state name set valid (inr new) = false≢true new.0.1

pub valid_add_user : (state : RoleData) (name : List ℕ) → IsValid state → is_user_name name ≡ true →
    All (λ account. account.name ≢ name) state.accounts → length state.accounts < most_users →
    IsValid (add_user state name)
valid_add_user state name valid fits new room = record {
  named = All-push (λ account. is_user_name account.name ≡ true) state.accounts (new_account name) valid.named fits;
  listed = All-push (λ account. IsListed account.assigned) state.accounts (new_account name) valid.listed listed_none;
  names = all_pairs_push (λ account other. account.name ≢ other.name) state.accounts (new_account name) valid.names new;
  few = omega (arith, length_push state.accounts (new_account name));
  once = valid.once;
  acyclic = valid.acyclic;
  separate = λ set broken. new_breaks state name set valid
      (Any-push_cases (λ account. ReachesBoth state.pairs account.assigned set) state.accounts (new_account name)
      broken);
}

listed_as : (b : Bool) (account : Account) (set : List Role) → IsListed account.assigned → IsListed set →
    IsListed (cond b (with_roles account set) account).assigned
listed_as true account set old new = new
listed_as false account set old new = old

-- the roles of a user change, and nobody comes to be authorized for both roles of a separation set
valid_changed : (state : RoleData) (change : List Role → List Role) (name : List ℕ) → IsValid state →
    ((set : List Role) → IsListed (change set))
    → KeepsSeparation (record state { accounts = with_change change name state.accounts })
    → IsValid (record state { accounts = with_change change name state.accounts })
valid_changed state change name valid listed keeps = record {
  named = All-map (λ account. is_user_name account.name ≡ true) (changed change name) state.accounts
      (λ k e within. subst (λ text. is_user_name text ≡ true) (sym (name_kept change name (get_or state.accounts k e)))
      (valid.named k e within));
  listed = All-map (λ account. IsListed account.assigned) (changed change name) state.accounts
      (λ k e within. listed_as (same_name (get_or state.accounts k e).name name) (get_or state.accounts k e)
      (change (get_or state.accounts k e).assigned) (valid.listed k e within)
      (listed (get_or state.accounts k e).assigned));
  names = apart_changed change name state.accounts valid.names;
  few = subst (λ n. n ≤ most_users) (sym (length_changed change name state.accounts)) valid.few;
  once = valid.once;
  acyclic = valid.acyclic;
  separate = keeps;
}

pub valid_assigned : (state : RoleData) (name : List ℕ) (role : Role) → IsValid state → KeepsSeparation
    (assign_user state name role) → IsValid (assign_user state name role)
valid_assigned state name role valid keeps =
    valid_changed state (λ set. with_role set role) name valid (λ set. listed_roles_that _) keeps

-- the roles of one user change
module _ (state : RoleData) (change : List Role → List Role) (name : List ℕ) (place : ℕ)
    (at : FoundAt state.accounts name place) (valid : IsValid state) (d : Account) where
  -- of the separation sets only those can be broken that the user breaks
  pub breaks_itself : (set : SeparationSet) →
      IsBroken (record state { accounts = with_change change name state.accounts }) set →
      ReachesBoth state.pairs (change (get_or state.accounts place d).assigned) set
  breaks_itself set broken = itself set (any_changed change name state.accounts place at valid.names d
      (λ account. ReachesBoth state.pairs account.assigned set) broken)
    where
      itself : (set : SeparationSet) → IsBroken state set ⊎ ReachesBoth state.pairs
          (change (get_or state.accounts place d).assigned) set → ReachesBoth state.pairs
          (change (get_or state.accounts place d).assigned) set
      itself set (inl old) = absurd (valid.separate set old)
      itself set (inr new) = new

  pub valid_change : ((set : List Role) → IsListed (change set)) → ((set : SeparationSet) → ¬ ReachesBoth state.pairs
      (change (get_or state.accounts place d).assigned) set) →
      IsValid (record state { accounts = with_change change name state.accounts })
  valid_change listed keeps = valid_changed state change name valid listed
      (λ set broken. keeps set (breaks_itself set broken))

pub valid_add_inheritance : (state : RoleData) (senior junior : Role) → IsValid state → ¬ Reaches state.pairs junior
    senior → list_any (same_inheritance (pair_of senior junior)) state.pairs ≡ false →
    ((set : SeparationSet) → ¬ IsBroken (add_inheritance state senior junior) set) →
    IsValid (add_inheritance state senior junior)
valid_add_inheritance state senior junior valid up new keeps = record {
  named = valid.named;
  listed = valid.listed;
  names = valid.names;
  few = valid.few;
  once = IsDistinct-push same_pair_equivalence state.pairs (pair_of senior junior) valid.once new;
  acyclic = acyclic_push state.pairs (pair_of senior junior) valid.acyclic up;
  separate = keeps;
}

-- without a pair no more is reached
less_reached : (pairs : List Inheritance) (pair : Inheritance) (assigned : List Role) (role : Role) →
    IsReached (without_pair pairs pair) assigned role → IsReached pairs assigned role
less_reached pairs pair assigned role is = (is.0, is.1, reaches_without pairs pair is.0 role is.2)

pub valid_delete_inheritance : (state : RoleData) (senior junior : Role) → IsValid state →
    IsValid (delete_inheritance state senior junior)
valid_delete_inheritance state senior junior valid = record {
  named = valid.named;
  listed = valid.listed;
  names = valid.names;
  few = valid.few;
  once = distinct_filter same_inheritance _ state.pairs valid.once;
  acyclic = acyclic_without state.pairs (pair_of senior junior) valid.acyclic;
  separate = λ set broken. valid.separate set (
    broken.0,
    broken.1,
    broken.2,
    broken.3,
    (
      less_reached state.pairs (pair_of senior junior) broken.1.assigned (apart set).0 broken.4.0,
      less_reached state.pairs (pair_of senior junior) broken.1.assigned (apart set).1 broken.4.1,
    ),
  );
}
