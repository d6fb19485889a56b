-- No two rows of a section agree where the movement keeps them apart.
use Rattle.std.proofs.Common.{◌≡◌, ℕ, ◌⊎◌, sym, ap, ◌∙◌, inl, inr, Contains, arith}
use Rattle.table_terms.specs.declared.pair.Pair.{Pair}
use Rattle.table_terms.specs.declared.side.Side.TheVariants.{NorthSouth, EastWest}
use Rattle.mitchell.specs.Mitchell.{
  MitchellSection,
  MitchellRow,
  IsMitchell,
  full_rows,
  mitchell_rows,
  east_west_table,
  set_on,
}
use Rattle.mitchell.proofs.RoundLemmas.{same_pair, same_round_of_table, same_round_of_pair, same_round_at_table}
use Rattle.mitchell.proofs.RowLemmas.{made_of, made_of_full, in_full, rounds-le, same_made}

-- a table has one row in a round
pub same_at_table_in_full : (section : MitchellSection) (first second : MitchellRow) → IsMitchell section →
    Contains (full_rows section) first →
    Contains (full_rows section) second → first.table ≡ second.table → first.round ≡ second.round → first ≡ second
same_at_table_in_full section first second is_section in_first in_second same_table same_round =
    let n : ℕ = section.tables in
    let a = made_of_full section first in_first in
    let b = made_of_full section second in_second in
    let few = rounds-le section is_section in
    let round : a.round ≡ b.round = omega arith in
    let table : east_west_table n a.pair a.round ≡ east_west_table n b.pair b.round = omega arith in
    let met : east_west_table n a.pair a.round ≡ east_west_table n b.pair a.round = cc in
    let pair : a.pair ≡ b.pair = same_pair n a.pair b.pair a.round a.pair_below b.pair_below (omega arith) met in
    same_made section first second a b round pair

pub same_at_table : (section : MitchellSection) (first second : MitchellRow) → IsMitchell section →
    Contains (mitchell_rows section) first →
    Contains (mitchell_rows section) second → first.table ≡ second.table → first.round ≡ second.round → first ≡ second
same_at_table section first second is_section in_first in_second =
    same_at_table_in_full section first second is_section (in_full section first in_first)
    (in_full section second in_second)

-- a table has one row at a set
pub same_set_at_table : (section : MitchellSection) (first second : MitchellRow) → IsMitchell section →
    Contains (mitchell_rows section) first →
    Contains (mitchell_rows section) second → first.table ≡ second.table → first.set ≡ second.set → first ≡ second
same_set_at_table section first second is_section in_first in_second same_table same_set =
    let n : ℕ = section.tables in
    let a = made_of section first in_first in
    let b = made_of section second in_second in
    let few = rounds-le section is_section in
    let here : ℕ = east_west_table n a.pair a.round in
    let table : here ≡ east_west_table n b.pair b.round = omega arith in
    let set : set_on n here a.round ≡ set_on n (east_west_table n b.pair b.round) b.round = omega arith in
    let held : set_on n here a.round ≡ set_on n here b.round = cc in
    let round : a.round ≡ b.round =
    same_round_of_table n here a.round b.round (omega arith) (omega arith) (omega arith) held in
    same_at_table section first second is_section in_first in_second same_table (omega arith)

-- an East-West pair has one row at a set
pub same_at_set : (section : MitchellSection) (first second : MitchellRow) → IsMitchell section →
    Contains (mitchell_rows section) first →
    Contains (mitchell_rows section) second → first.east_west ≡ second.east_west → first.set ≡ second.set →
    first ≡ second
same_at_set section first second is_section in_first in_second same_pair same_set =
    let n : ℕ = section.tables in
    let a = made_of section first in_first in
    let b = made_of section second in_second in
    let few = rounds-le section is_section in
    let pair : a.pair ≡ b.pair = omega (arith, ap (λ (pair : Pair). pair.number) same_pair) in
    let set : set_on n (east_west_table n a.pair a.round) a.round ≡ set_on n (east_west_table n b.pair b.round)
    b.round = omega arith in
    let met : set_on n (east_west_table n a.pair a.round) a.round ≡ set_on n (east_west_table n a.pair b.round)
    b.round = cc in
    let round : a.round ≡ b.round =
    same_round_of_pair n a.pair a.round b.round a.pair_below (omega arith) (omega arith) met in
    same_made section first second a b round pair

-- an East-West pair has one row against an opponent
pub same_opponents : (section : MitchellSection) (first second : MitchellRow) → IsMitchell section →
    Contains (mitchell_rows section) first →
    Contains (mitchell_rows section) second → first.east_west ≡ second.east_west →
    first.north_south ≡ second.north_south →
    first ≡ second
same_opponents section first second is_section in_first in_second same_pair same_opponent =
    let n : ℕ = section.tables in
    let a = made_of section first in_first in
    let b = made_of section second in_second in
    let most = is_section.not_too_many_rounds in
    let pair : a.pair ≡ b.pair = omega (arith, ap (λ (pair : Pair). pair.number) same_pair) in
    let table : east_west_table n a.pair a.round ≡ east_west_table n b.pair b.round =
    omega (arith, ap (λ (pair : Pair). pair.number) same_opponent) in
    let met : east_west_table n a.pair a.round ≡ east_west_table n a.pair b.round = cc in
    let round : a.round ≡ b.round =
    same_round_at_table n a.pair a.round b.round a.pair_below (omega arith) (omega arith) met in
    same_made section first second a b round pair

-- a pair that two rows seat at one set has one row
pub same_seat : (section : MitchellSection) (first second : MitchellRow) (pair : Pair) → IsMitchell section →
    Contains (mitchell_rows section) first → Contains (mitchell_rows section) second →
    (first.north_south ≡ pair) ⊎ (first.east_west ≡ pair) → (second.north_south ≡ pair) ⊎ (second.east_west ≡ pair) →
    first.set ≡ second.set → first ≡ second
same_seat section first second pair is_section in_first in_second (inl north) (inl north') set =
    let a = made_of section first in_first in
    let b = made_of section second in_second in
    let number = ap (λ (pair : Pair). pair.number) (north ∙ sym north') in
    same_set_at_table section first second is_section in_first in_second (omega arith) set
same_seat section first second pair is_section in_first in_second (inr east) (inr east') set =
    same_at_set section first second is_section in_first in_second (east ∙ sym east') set
same_seat section first second pair is_section in_first in_second (inl north) (inr east) set =
    let a = made_of section first in_first in
    let b = made_of section second in_second in
    let side : NorthSouth ≡ EastWest =
    sym a.is_north_south ∙ ap (λ (pair : Pair). pair.side) (north ∙ sym east) ∙ b.is_east_west in
    absurd (cc)
same_seat section first second pair is_section in_first in_second (inr east) (inl north) set =
    let a = made_of section first in_first in
    let b = made_of section second in_second in
    let side : NorthSouth ≡ EastWest =
    sym b.is_north_south ∙ ap (λ (pair : Pair). pair.side) (north ∙ sym east) ∙ a.is_east_west in
    absurd (cc)
