-- Inheritance pairs as a list: that no pair is there twice, how many there can be, and the pairs of a new session.
use Rattle.std.proofs.Common.{
  ◌≡◌,
  ℕ,
  ◌<◌,
  ◌≤◌,
  true,
  false,
  List,
  [],
  ◌∷◌,
  ◌++◌,
  length,
  zero,
  suc,
  refl,
  ap,
  subst,
  arith,
}
use Rattle.std.specs.Prelude.{All, Contains, map}
use Rattle.std.specs.List.{list_any, IsDistinct, flat_map}
use Rattle.std.specs.Bool.{Decides}
use Rattle.std.specs.Cmp.{IsEquivalence}
use Rattle.std.proofs.lemmas.Bool.Decides.{Decides-like, Decides-and}
use Rattle.std.proofs.lemmas.List.{length_push}
use Rattle.std.proofs.lemmas.List.Elements.{All-from_recursion, All-contains}
use Rattle.std.proofs.lemmas.Map.Keys.{IsDistinct-push}
use Rattle.std.proofs.lemmas.Map.Made.{length-le_from_is_member, IsDistinct-from_count}
use Rattle.session_roles.specs.declared.edition.Edition.{Edition}
use Rattle.session_roles.specs.declared.edition.Edition.TheVariants.{First, Second}
use Rattle.session_roles.specs.declared.role.Role.{Role}
use Rattle.session_roles.specs.declared.role.Role.TheVariants.{
  Member,
  Spectator,
  Contestant,
  Scorer,
  Director,
  Administrator,
  Commentator,
}
use Rattle.rbac.specs.declared.inheritance.Inheritance.{Inheritance}
use Rattle.session_roles.specs.Role.{roles}
use Rattle.rbac.specs.Inheritance.{most_pairs, pair_of, Chain, IsAcyclic, opening_pairs, same_inheritance}
use Rattle.session_roles.proofs.RoleLemmas.{each_role, same_role_decides}
use Rattle.rbac.proofs.ListLemmas.{equivalence}

pub same_pair_decides : (a b : Inheritance) → Decides (same_inheritance a b) (a ≡ b)
same_pair_decides a b =
    Decides-like (same_inheritance a b)
    (λ (s, j) i. record { senior = s i; junior = j i })
    (λ e. (ap (λ (p : Inheritance). p.senior) e, ap (λ (p : Inheritance). p.junior) e))
    (Decides-and _ _ (same_role_decides a.senior b.senior) (same_role_decides a.junior b.junior))

pub same_pair_equivalence : IsEquivalence same_inheritance
same_pair_equivalence = equivalence same_inheritance same_pair_decides

-- the ordered pairs of two roles
all_pairs : List Inheritance
all_pairs = flat_map (λ senior. map (λ junior. pair_of senior junior) roles) roles

each_pair : (senior junior : Role) → list_any (same_inheritance (pair_of senior junior)) all_pairs ≡ true
unfolding all_pairs
each_pair =
    each_role _
    (each_role _ refl refl refl refl refl refl refl)
    (each_role _ refl refl refl refl refl refl refl)
    (each_role _ refl refl refl refl refl refl refl)
    (each_role _ refl refl refl refl refl refl refl)
    (each_role _ refl refl refl refl refl refl refl)
    (each_role _ refl refl refl refl refl refl refl)
    (each_role _ refl refl refl refl refl refl refl)

-- there is room for one pair more
pub room_for_pair : (pairs : List Inheritance) (pair : Inheritance) → IsDistinct same_inheritance pairs →
    list_any (same_inheritance pair) pairs ≡ false → length pairs < most_pairs
unfolding all_pairs
room_for_pair pairs pair once new =
    let distinct = IsDistinct-push same_pair_equivalence pairs pair once new in
    let few : length (pairs ++ pair ∷ []) ≤ most_pairs = length-le_from_is_member same_pair_equivalence
    (pairs ++ pair ∷ []) all_pairs distinct (λ q there. each_pair q.senior q.junior) in
    omega (arith, length_push pairs pair)

-- so there are not too many
pub few_pairs : (pairs : List Inheritance) → IsDistinct same_inheritance pairs → length pairs ≤ most_pairs
unfolding all_pairs
few_pairs pairs once =
    length-le_from_is_member same_pair_equivalence pairs all_pairs once (λ q there. each_pair q.senior q.junior)

-- each pair of a new session leads from a higher place to a lower one
height : Role → ℕ
height Member = 0
height Spectator = 1
height Contestant = 1
height Scorer = 1
height Director = 2
height Administrator = 1
height Commentator = 2

all_fall : (edition : Edition) → All (λ pair. height pair.junior < height pair.senior) (opening_pairs edition)
unfolding height opening_pairs
all_fall First =
    All-from_recursion (λ pair. height pair.junior < height pair.senior) (opening_pairs First)
    (omega arith, (omega arith, (omega arith, (omega arith, (omega arith, (omega arith, tt))))))
all_fall Second =
    All-from_recursion (λ pair. height pair.junior < height pair.senior) (opening_pairs Second)
    (omega arith, (omega arith, (omega arith, (omega arith, (omega arith, (omega arith, (omega arith, tt)))))))

each_falls : (edition : Edition) (senior junior : Role) → Contains (opening_pairs edition) (pair_of senior junior) →
    height junior < height senior
each_falls edition senior junior =
    All-contains (λ pair. height pair.junior < height pair.senior) (opening_pairs edition) (pair_of senior junior)
    (all_fall edition)

falls : (edition : Edition) (n : ℕ) (senior junior : Role) → Chain (opening_pairs edition) n senior junior →
    height junior ≤ height senior
falls edition zero senior junior same = subst (λ role. height role ≤ height senior) same (omega arith)
falls edition (suc n) senior junior down =
    omega (arith, each_falls edition senior down.0 down.1, falls edition n down.0 junior down.2)

pub opening_acyclic : (edition : Edition) → IsAcyclic (opening_pairs edition)
opening_acyclic edition role n round =
    absurd (omega (arith, each_falls edition role round.0 round.1, falls edition n round.0 role round.2))

pub opening_once : (edition : Edition) → IsDistinct same_inheritance (opening_pairs edition)
unfolding opening_pairs
opening_once First = IsDistinct-from_count same_pair_equivalence (opening_pairs First) refl
opening_once Second = IsDistinct-from_count same_pair_equivalence (opening_pairs Second) refl
