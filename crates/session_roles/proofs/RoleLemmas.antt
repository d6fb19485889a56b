-- Sets of roles as lists.
use Rattle.std.proofs.Common.{◌≡◌, ℕ, Bool, true, false, List, get_or, refl, sym, ap, ◌∙◌}
use Rattle.std.specs.Prelude.{◌||◌, ◌&&◌, not}
use Rattle.std.specs.Cmp.{IsEquivalence, on_equiv, nat_eq_equiv}
use Rattle.std.specs.Bool.{Decides}
use Rattle.std.proofs.lemmas.Bool.{eqb-true, eq-eqb}
use Rattle.std.proofs.lemmas.Map.Views.{any-filter_same}
use Rattle.session_roles.specs.declared.role.Role.{Role}
use Rattle.session_roles.specs.declared.role.Role.TheVariants.{
  Member,
  Spectator,
  Contestant,
  Scorer,
  Director,
  Administrator,
  Commentator,
}
use Rattle.session_roles.specs.Role.{
  roles,
  role_number,
  roles_that,
  same_role,
  has,
  IsListed,
  with_role,
  without_role,
  union_of,
}

-- a fact about each role, from one for every role
pub each_role : (P : Role → Type 0) → P Member → P Spectator → P Contestant → P Scorer → P Director → P Administrator →
    P Commentator → (role : Role) → P role
each_role P a b c d e f g Member = a
each_role P a b c d e f g Spectator = b
each_role P a b c d e f g Contestant = c
each_role P a b c d e f g Scorer = d
each_role P a b c d e f g Director = e
each_role P a b c d e f g Administrator = f
each_role P a b c d e f g Commentator = g

-- roles with one number are one role
pub same_number : (a b : Role) → role_number a ≡ role_number b → a ≡ b
same_number a b e =
    let at : ℕ → Role = λ n. get_or roles n Member in
    let back : (role : Role) → at (role_number role) ≡ role = each_role (λ role. at (role_number role) ≡ role) refl refl
    refl refl refl refl refl in
    sym (back a) ∙ ap at e ∙ back b

pub same_role_true : (a b : Role) → same_role a b ≡ true → a ≡ b
same_role_true a b e = same_number a b (eqb-true _ _ e)

pub same_role_itself : (role : Role) → same_role role role ≡ true
same_role_itself = each_role (λ role. same_role role role ≡ true) refl refl refl refl refl refl refl

-- roles are one where their numbers are
pub same_role_decides : (a b : Role) → Decides (same_role a b) (a ≡ b)
same_role_decides a b = (same_role_true a b, λ e. eq-eqb _ _ (ap role_number e))

pub same_role_equiv : IsEquivalence same_role
same_role_equiv = on_equiv role_number nat_eq_equiv

pub all_listed : (role : Role) → has roles role ≡ true
all_listed = each_role (λ role. has roles role ≡ true) refl refl refl refl refl refl refl

and_true : (b : Bool) → (b && true) ≡ b
and_true true = refl
and_true false = refl

-- of the roles that pass a test, just those that pass it are there
pub has_roles_that : (test : Role → Bool) (role : Role) → has (roles_that test) role ≡ test role
unfolding roles_that
has_roles_that test role =
    any-filter_same (same_role role) test (test role) (λ other e. ap test (sym (same_role_true role other e))) roles
    ∙ ap (λ b. test role && b) (all_listed role) ∙ and_true (test role)

-- tests that agree at each role choose the same roles
pub same_roles_that : (p q : Role → Bool) → ((role : Role) → p role ≡ q role) → roles_that p ≡ roles_that q
same_roles_that p q agree = λ i. roles_that (λ role. agree role i)

pub listed_roles_that : (test : Role → Bool) → IsListed (roles_that test)
listed_roles_that test = same_roles_that test (has (roles_that test)) (λ role. sym (has_roles_that test role))

-- two sets with the same roles are one
pub same_sets : (a b : List Role) → IsListed a → IsListed b → ((role : Role) → has a role ≡ has b role) → a ≡ b
same_sets a b listed_a listed_b agree = listed_a ∙ same_roles_that (has a) (has b) agree ∙ sym listed_b

-- what is in a set after each call
pub has_with_role : (set : List Role) (role other : Role) → has (with_role set role) other ≡
    (same_role role other || has set other)
has_with_role set role = has_roles_that (λ other. same_role role other || has set other)

pub has_without_role : (set : List Role) (role other : Role) → has (without_role set role) other ≡
    (not (same_role role other) && has set other)
has_without_role set role = has_roles_that (λ other. not (same_role role other) && has set other)

pub has_union_of : (a b : List Role) (role : Role) → has (union_of a b) role ≡ (has a role || has b role)
has_union_of a b = has_roles_that (λ role. has a role || has b role)

absent : (same b : Bool) → (same ≡ true → b ≡ false) → (not same && b) ≡ b
absent true b gone = sym (gone refl)
absent false b gone = refl

-- a role that is not there can be taken away
pub without_role_absent : (set : List Role) (role : Role) → IsListed set → has set role ≡ false → without_role set role
    ≡ set
without_role_absent set role listed gone =
    same_roles_that (λ other. not (same_role role other) && has set other) (has set)
    (λ other. absent (same_role role other) (has set other) (λ same. ap (has set) (sym (same_role_true role other same))
    ∙ gone))
    ∙ sym listed
