-- The table of what each role reaches, against the chains of pairs.
use Rattle.std.proofs.Common.{
  ◌≡◌,
  ℕ,
  ◌<◌,
  ◌+◌,
  Bool,
  true,
  false,
  cond,
  List,
  [],
  ◌∷◌,
  ◌++◌,
  length,
  take,
  get_or,
  refl,
  sym,
  ap,
  subst,
  ◌∙◌,
  arith,
}
use Rattle.std.specs.Prelude.{◌||◌, ◌&&◌, not, filter}
use Rattle.std.specs.List.{list_any}
use Rattle.std.proofs.lemmas.List.Folds.{list_any_more}
use Rattle.std.proofs.lemmas.List.Elements.{filter_more}
use Rattle.std.proofs.lemmas.List.{append-nil}
use Rattle.session_roles.specs.declared.role.Role.{Role}
use Rattle.session_roles.specs.declared.role.Role.TheVariants.{Member}
use Rattle.session_roles.specs.declared.role.TheConstants.Role.{COUNT}
use Rattle.rbac.specs.declared.inheritance.Inheritance.{Inheritance}
use Rattle.session_roles.specs.Role.{roles, role_number, roles_that, same_role, has, with_role, union_of}
use Rattle.rbac.specs.Inheritance.{same_inheritance, without_pair, reaches}
use Rattle.rbac.specs.Hierarchy.{below, reach, IsClosure, HasOneMore}
use Rattle.session_roles.proofs.RoleLemmas.{each_role, has_roles_that, same_roles_that}
use Rattle.rbac.proofs.InheritanceLemmas.{reaches_push}

or_false : (b : Bool) → (b || false) ≡ b
or_false true = refl
or_false false = refl

-- the role at each place
pub at_number : (role : Role) → get_or roles (role_number role) Member ≡ role
at_number = each_role (λ role. get_or roles (role_number role) Member ≡ role) refl refl refl refl refl refl refl

pub number_below : (role : Role) → role_number role < COUNT
number_below = each_role (λ role. role_number role < COUNT) (omega arith) (omega arith) (omega arith) (omega arith)
    (omega arith) (omega arith) (omega arith)

-- a table in which each role reaches itself is that of no pairs
pub closure_none : (table : List (List Role)) → ((k : ℕ) → k < COUNT → get_or table k [] ≡ with_role []
    (get_or roles k Member)) → IsClosure [] table
unfolding reaches
closure_none table alone senior junior =
    ap (λ set. has set junior) (alone (role_number senior) (number_below senior))
    ∙ ap (λ role. has (with_role [] role) junior) (at_number senior)
    ∙ has_roles_that (λ other. same_role senior other || false) junior ∙ or_false (same_role senior junior)

with_some : (set more : List Role) (role : Role) (gains : Bool) → has (cond gains (union_of set more) set) role ≡
    (has set role || (gains && has more role))
with_some set more role true = has_roles_that (λ other. has set other || has more other) role
with_some set more role false = sym (or_false (has set role))

-- the table of one pair more
pub closure_push : (pairs : List Inheritance) (old new : List (List Role)) (pair : Inheritance) → IsClosure pairs old →
    HasOneMore old pair new → IsClosure (pairs ++ pair ∷ []) new
closure_push pairs old new pair closure more senior junior =
    ap (λ set. has set junior) (more senior)
    ∙ with_some (below old senior) (below old pair.junior) junior (has (below old senior) pair.senior)
    ∙ (λ i. closure senior junior i || (closure senior pair.senior i && closure pair.junior junior i))
    ∙ sym (reaches_push pairs pair senior junior)

-- the roles reached from some of the first roles of a set
abbrev pub reached_by_first : List (List Role) → List Role → ℕ → List Role
reached_by_first table set n =
    roles_that (λ role. list_any (λ senior. has set senior && reach table senior role) (take n roles))

pub reached_none : (table : List (List Role)) (set : List Role) → reached_by_first table set 0 ≡ []
unfolding roles_that
reached_none table set = refl

-- a role of the set adds what it reaches
pub reached_more : (table : List (List Role)) (set : List Role) (n : ℕ) (d : Role) → n < COUNT → has set (get_or roles n d)
    ≡ true → union_of (reached_by_first table set n) (below table (get_or roles n d)) ≡ reached_by_first table set
    (n + 1)
reached_more table set n d within assigned =
    let f : Role → Role → Bool = λ role senior. has set senior && reach table senior role in
    same_roles_that (λ role. has (reached_by_first table set n) role || has (below table (get_or roles n d)) role)
    (λ role. list_any (f role) (take (n + 1) roles))
    (λ role.
    ap (λ b. b || reach table (get_or roles n d) role) (has_roles_that (λ role. list_any (f role) (take n roles)) role)
    ∙ ap (λ b. list_any (f role) (take n roles) || (b && reach table (get_or roles n d) role)) (sym assigned)
    ∙ sym (list_any_more (f role) roles n d within))

-- and another role adds nothing
pub reached_same : (table : List (List Role)) (set : List Role) (n : ℕ) (d : Role) → n < COUNT → has set (get_or roles n d)
    ≡ false → reached_by_first table set n ≡ reached_by_first table set (n + 1)
reached_same table set n d within not_assigned =
    let f : Role → Role → Bool = λ role senior. has set senior && reach table senior role in
    same_roles_that (λ role. list_any (f role) (take n roles)) (λ role. list_any (f role) (take (n + 1) roles))
    (λ role. sym (
    list_any_more (f role) roles n d within
    ∙ ap (λ b. list_any (f role) (take n roles) || (b && reach table (get_or roles n d) role)) not_assigned
    ∙ or_false (list_any (f role) (take n roles))))

-- the pairs but for one, up to a place
step_kept : (p : Inheritance → Bool) (pairs : List Inheritance) (n : ℕ) (d : Inheritance) → n < length pairs →
    p (get_or pairs n d) ≡ true → filter p (take (n + 1) pairs) ≡ filter p (take n pairs) ++ get_or pairs n d ∷ []
step_kept p pairs n d within passes =
    filter_more p pairs n d within ∙ ap (λ b. filter p (take n pairs) ++ cond b (get_or pairs n d ∷ []) []) passes

step_dropped : (p : Inheritance → Bool) (pairs : List Inheritance) (n : ℕ) (d : Inheritance) → n < length pairs →
    p (get_or pairs n d) ≡ false → filter p (take (n + 1) pairs) ≡ filter p (take n pairs)
step_dropped p pairs n d within fails =
    filter_more p pairs n d within ∙ ap (λ b. filter p (take n pairs) ++ cond b (get_or pairs n d ∷ []) []) fails
    ∙ append-nil (filter p (take n pairs))

pub closure_with : (pairs : List Inheritance) (left_out : Inheritance) (n : ℕ) (d : Inheritance)
    (old new : List (List Role)) → n < length pairs → not (same_inheritance (get_or pairs n d) left_out) ≡ true →
    IsClosure (without_pair (take n pairs) left_out) old → HasOneMore old (get_or pairs n d) new →
    IsClosure (without_pair (take (n + 1) pairs) left_out) new
closure_with pairs left_out n d old new within other closure more =
    subst (λ kept. IsClosure kept new)
    (sym (step_kept (λ pair. not (same_inheritance pair left_out)) pairs n d within other))
    (closure_push (without_pair (take n pairs) left_out) old new (get_or pairs n d) closure more)

pub closure_left_out : (pairs : List Inheritance) (left_out : Inheritance) (n : ℕ) (d : Inheritance)
    (old : List (List Role)) → n < length pairs → not (same_inheritance (get_or pairs n d) left_out) ≡ false →
    IsClosure (without_pair (take n pairs) left_out) old → IsClosure (without_pair (take (n + 1) pairs) left_out) old
closure_left_out pairs left_out n d old within same closure =
    subst (λ kept. IsClosure kept old)
    (sym (step_dropped (λ pair. not (same_inheritance pair left_out)) pairs n d within same)) closure
