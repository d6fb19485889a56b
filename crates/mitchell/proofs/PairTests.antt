-- The tests on sides and pairs against equality.
use Rattle.std.proofs.Common.{◌≡◌, true, refl, ap}
use Rattle.std.specs.Bool.{Decides}
use Rattle.std.proofs.lemmas.Bool.{false≢true, eqb-true, eq-eqb, and_from, and_parts}
use Rattle.table_terms.specs.declared.pair.Pair.{Pair}
use Rattle.table_terms.specs.declared.side.Side.{Side}
use Rattle.table_terms.specs.declared.side.Side.TheVariants.{NorthSouth, EastWest}
use Rattle.mitchell.specs.Mitchell.{same_side, same_pair}

-- the sides are one
side_decides : (side other : Side) → Decides (same_side side other) (side ≡ other)
side_decides NorthSouth NorthSouth = (λ test. refl, λ same. refl)
side_decides NorthSouth EastWest = (λ test. absurd (false≢true test), λ same. absurd (cc))
side_decides EastWest NorthSouth = (λ test. absurd (false≢true test), λ same. absurd (cc))
side_decides EastWest EastWest = (λ test. refl, λ same. refl)

-- the pairs are one
pub pair_decides : (pair other : Pair) → Decides (same_pair pair other) (pair ≡ other)
pair_decides pair other = (from, to)
  where
    from : same_pair pair other ≡ true → pair ≡ other
    from test =
        let parts = and_parts _ _ test in
        let side : pair.side ≡ other.side = (side_decides pair.side other.side).0 parts.0 in
        let number : pair.number ≡ other.number = eqb-true _ _ parts.1 in
        λ i. record { side = side i; number = number i }

    to : pair ≡ other → same_pair pair other ≡ true
    to same =
        and_from _ _ ((side_decides pair.side other.side).1 (ap (λ (p : Pair). p.side) same))
        (eq-eqb _ _ (ap (λ (p : Pair). p.number) same))
