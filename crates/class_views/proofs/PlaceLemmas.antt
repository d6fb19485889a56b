-- The places of pairs and classes.
use Rattle.std.proofs.Common.{◌≡◌, ℕ, ◌+◌, ◌-◌, ◌<◌, ◌≤◌, cond, sym, ap, ◌∙◌, arith}
use Rattle.std.specs.Prelude.{nat_eq, if◌then◌else◌}
use Rattle.std.proofs.lemmas.Bool.{lt-ltb, le-ltb, ne_eqb}
use Rattle.table_terms.specs.declared.side.Side.TheVariants.{NorthSouth, EastWest}
use Rattle.standings.specs.Ranking.{pair_on}
use Rattle.class_views.specs.Places.{pair_at, class_at}
use Rattle.class_views.specs.declared.user_class.UserClass.{UserClass}
use Rattle.class_views.specs.declared.user_class.UserClass.TheVariants.{
  OfPair,
  Unseated,
  Spectators,
  Directors,
  Commentators,
}

pub north_south_place : (number : ℕ) → 1 ≤ number → number ≤ 16 → pair_at (number - 1) ≡ pair_on NorthSouth number
unfolding pair_at
north_south_place number from to =
    ap (λ b. cond b (pair_on NorthSouth (number - 1 + 1)) (pair_on EastWest (number - 1 - 16 + 1)))
    (lt-ltb (number - 1) 16 (omega (arith, from, to)))
    ∙ ap (pair_on NorthSouth) same
  where
    same : number - 1 + 1 ≡ number
    same = omega (arith, from)

pub east_west_place : (number : ℕ) → 1 ≤ number → number ≤ 16 → pair_at (16 + number - 1) ≡ pair_on EastWest number
unfolding pair_at
east_west_place number from to =
    ap (λ b. cond b (pair_on NorthSouth (16 + number - 1 + 1)) (pair_on EastWest (16 + number - 1 - 16 + 1)))
    (le-ltb (16 + number - 1) 16 (omega (arith, from)))
    ∙ ap (pair_on EastWest) same
  where
    same : 16 + number - 1 - 16 + 1 ≡ number
    same = omega (arith, from)

-- the class at a place, where it is one of the pairs', and where not
later_class : ℕ → UserClass
later_class place =
    if nat_eq place 32 then Unseated else if nat_eq place 33 then Spectators else if nat_eq place 34 then Directors
    else Commentators

pub pair_class : (place : ℕ) → place < 32 → class_at place ≡ OfPair (pair_at place)
unfolding class_at later_class
pair_class place below = ap (λ b. cond b (OfPair (pair_at place)) (later_class place)) (lt-ltb place 32 below)

after_pairs : (place : ℕ) → 32 ≤ place → class_at place ≡ later_class place
unfolding class_at later_class
after_pairs place from = ap (λ b. cond b (OfPair (pair_at place)) (later_class place)) (le-ltb place 32 from)

pub unseated_class : (place : ℕ) → place ≡ 32 → Unseated ≡ class_at place
unfolding class_at
unseated_class place is = sym (ap class_at is)

pub spectators_class : (place : ℕ) → place ≡ 33 → Spectators ≡ class_at place
unfolding class_at
spectators_class place is = sym (ap class_at is)

pub directors_class : (place : ℕ) → place ≡ 34 → Directors ≡ class_at place
unfolding class_at
directors_class place is = sym (ap class_at is)

pub commentators_class : (place : ℕ) → 35 ≤ place → Commentators ≡ class_at place
unfolding later_class
commentators_class place from =
    sym (after_pairs place (omega (arith, from))
    ∙ ((λ i. cond (ne_eqb place 32 (λ is. absurd (omega (arith, is, from))) i) Unseated
    (if nat_eq place 33 then Spectators else if nat_eq place 34 then Directors else Commentators))
    ∙ ((λ i. cond (ne_eqb place 33 (λ is. absurd (omega (arith, is, from))) i) Spectators
    (if nat_eq place 34 then Directors else Commentators))
    ∙ (λ i. cond (ne_eqb place 34 (λ is. absurd (omega (arith, is, from))) i) Directors Commentators))))
