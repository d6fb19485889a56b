-- Which tables play in a round: those both of whose pairs are there.
use Rattle.std.proofs.Common.{◌≡◌, ℕ, ◌+◌, ◌-◌, ◌≤◌, Bool, true, false, refl, sym, ap, ◌∙◌, Any, Contains, ◌<◌, arith}
use Rattle.std.specs.Prelude.{not, ◌&&◌, ◌↔◌, IsTrue}
use Rattle.std.proofs.lemmas.Bool.{false≢true, and_from, and_parts}
use Rattle.table_terms.specs.declared.pair.Pair.{Pair}
use Rattle.table_terms.specs.declared.side.Side.TheVariants.{NorthSouth, EastWest}
use Rattle.mitchell.specs.Mitchell.{
  MitchellSection,
  MitchellRow,
  IsMitchell,
  full_rows,
  east_west_table,
  is_absent,
  is_played,
  mitchell_rows,
}
use Rattle.mitchell.specs.MitchellRow.{IsAtTable}
use Rattle.mitchell.proofs.OneRowLemmas.{same_at_table_in_full}
use Rattle.mitchell.proofs.RowLemmas.{Any-full_rows, Contains-rows, in_full, in_range, in_full_range, played_of}

-- the East-West pair at a table in a round
pub pair_at_table : (section : MitchellSection) (table round pair : ℕ) → 1 ≤ table → 1 ≤ round →
    round ≤ section.rounds →
    pair < section.tables → east_west_table section.tables pair (round - 1) ≡ table - 1 →
    Any (λ row. IsAtTable row table round × (row.east_west ≡ record { side = EastWest; number = pair + 1 }))
    (full_rows section)
pair_at_table section table round pair from_table from_round to_round pair_below here =
    Any-full_rows section (λ row. IsAtTable row table round ×
    (row.east_west ≡ record { side = EastWest; number = pair + 1 }))
    (round - 1) pair (omega arith) pair_below
    (record { table = omega arith; round = omega arith }, refl)

-- the East-West pair at a table in a round is that of the row that is played there
pub pair_of_played : (section : MitchellSection) → IsMitchell section → (table round : ℕ) (pair : Pair) →
    Any (λ row. IsAtTable row table round × (row.east_west ≡ pair)) (full_rows section) → (row : MitchellRow) →
    Contains (mitchell_rows section) row → IsAtTable row table round → row.east_west ≡ pair
pair_of_played section is_section table round pair (k, full, within, here, (at, seated)) row among is_at =
    let same : row ≡ full =
    same_at_table_in_full section row full is_section (in_full section row among) (k, within, here)
    (is_at.table ∙ sym at.table) (is_at.round ∙ sym at.round) in
    ap (λ (row : MitchellRow). row.east_west) same ∙ seated

-- a table plays in a round where both of its pairs are there
pub plays : (section : MitchellSection) → IsMitchell section → (table round : ℕ) (east_west : Pair) →
    Any (λ row. IsAtTable row table round × (row.east_west ≡ east_west)) (full_rows section) →
    (not (is_absent section.absent (record { side = NorthSouth; number = table }))
    && not (is_absent section.absent east_west)) ≡ true → Any (λ row. IsAtTable row table round) (mitchell_rows section)
plays section is_section table round east_west (k, row, within, here, (at, seated)) both =
    let north : row.north_south ≡ record { side = NorthSouth; number = row.table } =
    (in_full_range section row (k, within, here)).north_south in
    let played : is_played section row ≡ true = rw (north, at.table, seated) both in
    let among = Contains-rows section row played (k, within, here) in
    (among.0, row, among.1, among.2, at)

pub plays_only : (section : MitchellSection) → IsMitchell section → (table round : ℕ) (east_west : Pair) →
    Any (λ row. IsAtTable row table round × (row.east_west ≡ east_west)) (full_rows section) →
    Any (λ row. IsAtTable row table round) (mitchell_rows section) →
    (not (is_absent section.absent (record { side = NorthSouth; number = table }))
    && not (is_absent section.absent east_west)) ≡ true
plays_only section is_section table round east_west found (k, row, within, here, at) =
    let seated = pair_of_played section is_section table round east_west found row (k, within, here) at in
    let north : row.north_south ≡ record { side = NorthSouth; number = row.table } =
    (in_range section row (k, within, here)).north_south in
    rw (north, at.table, seated) at (played_of section row (k, within, here))

-- what is tested, one pair after the other: the second where the first is there
abbrev pub PlaysAt : MitchellSection → ℕ → ℕ → Type 0
PlaysAt section table round = Any (λ row. IsAtTable row table round) (mitchell_rows section)

pub plays_with_both : (section : MitchellSection) → IsMitchell section → (table round : ℕ) (east_west : Pair) →
    Any (λ row. IsAtTable row table round × (row.east_west ≡ east_west)) (full_rows section) → (north absent : Bool) →
    north ≡ is_absent section.absent (record { side = NorthSouth; number = table }) →
    absent ≡ is_absent section.absent east_west → north ≡ false → IsTrue (not absent) ↔ PlaysAt section table round
plays_with_both section is_section table round east_west found north absent is_north is_east_west there = (
  λ test.
      plays section is_section table round east_west found
      (and_from _ _ (ap not (rw is_north at there)) (rw is_east_west at test)),
  λ some.
      rw is_east_west (and_parts _ _ (plays_only section is_section table round east_west found some)).1,
)

pub plays_without : (section : MitchellSection) → IsMitchell section → (table round : ℕ) (east_west : Pair) →
    Any (λ row. IsAtTable row table round × (row.east_west ≡ east_west)) (full_rows section) → (north : Bool) →
    north ≡ is_absent section.absent (record { side = NorthSouth; number = table }) → north ≡ true →
    IsTrue (not north) ↔ PlaysAt section table round
plays_without section is_section table round east_west found north is_north missing = (
  λ test. absurd (false≢true (sym (ap not missing) ∙ test)),
  λ some. rw is_north (and_parts _ _ (plays_only section is_section table round east_west found some)).0,
)
