-- Rows of a list in which no later row has something in common with an earlier one: two that have it are one.
use Rattle.std.proofs.Common.{◌≡◌, ◌≢◌, List, get_or, sym, ◌∙◌, inl, inr, Contains, subst}
use Rattle.std.specs.List.{AllPairs}
use Rattle.std.proofs.lemmas.Bool.{cases_order}
use Rattle.std.proofs.lemmas.List.{get_or_default}
use Rattle.table_terms.specs.declared.pair.Pair.{Pair}
use Rattle.movement.specs.declared.limits.Limits.{Limits}
use Rattle.movement.specs.declared.row.Row.{Row}
use Rattle.movement.specs.Sound.{Seats, SharesPair, SharesBoth, IsSound}

-- two rows that are in the list and have it in common, whichever comes first, are one
pub apart_same : (R : Row → Row → Type 0) (rows : List Row) → AllPairs (λ earlier row. ¬ R row earlier) rows →
    (first second : Row) → Contains rows first → Contains rows second → R first second → R second first → first ≡ second
apart_same R rows apart first second (i, within_i, here) (j, within_j, there) one other =
    let here' : get_or rows i second ≡ first = get_or_default rows i second first within_i ∙ here in
    elim (cases_order i j) [
      | inl same ↦ sym here' ∙ (λ k. get_or rows (same k) second) ∙ there
      | inr (inl before) ↦
          absurd (apart i j second before within_j (rw (here', there) other))
      | inr (inr after) ↦
          absurd (apart j i second after within_i (rw (here', there) one))
    ]

-- two rows that seat one pair share it
shares : (first second : Row) (pair : Pair) → Seats first pair → Seats second pair → SharesPair first second
shares first second pair seated (inl north) = inl (subst (Seats first) (sym north) seated)
shares first second pair seated (inr east) = inr (subst (Seats first) (sym east) seated)

-- two rows that seat two pairs share both
shares_two : (first second : Row) (pair other : Pair) → pair ≢ other → Seats first pair → Seats first other →
    Seats second pair → Seats second other → SharesBoth first second
shares_two first second pair other two one one' (inl north) (inr east) =
    (subst (Seats first) (sym north) one, subst (Seats first) (sym east) one')
shares_two first second pair other two one one' (inr east) (inl north) =
    (subst (Seats first) (sym north) one', subst (Seats first) (sym east) one)
shares_two first second pair other two one one' (inl north) (inl north') = absurd (two (sym north ∙ north'))
shares_two first second pair other two one one' (inr east) (inr east') = absurd (two (sym east ∙ east'))

module _ (limits : Limits) (rows : List Row) (first second : Row) (sound : IsSound limits rows)
    (in_first : Contains rows first) (in_second : Contains rows second) where
  pub same_at_table : first.table ≡ second.table → first.round ≡ second.round → first ≡ second
  same_at_table table round =
      apart_same (λ row earlier. (row.round ≡ earlier.round) × (row.table ≡ earlier.table)) rows
      (λ i j d before within both. sound.tables i j d before within both.0 both.1) first second in_first in_second
      (round, table) (sym round, sym table)

  pub same_cell : first.table ≡ second.table → first.set ≡ second.set → first ≡ second
  same_cell table set =
      apart_same (λ row earlier. (row.table ≡ earlier.table) × (row.set ≡ earlier.set)) rows
      (λ i j d before within both. sound.cells i j d before within both.0 both.1) first second in_first in_second
      (table, set) (sym table, sym set)

  pub same_in_round : (pair : Pair) → Seats first pair → Seats second pair → first.round ≡ second.round →
      first ≡ second
  same_in_round pair one other round =
      apart_same (λ row earlier. (row.round ≡ earlier.round) × SharesPair row earlier) rows
      (λ i j d before within both. sound.rounds i j d before within both.0 both.1) first second in_first in_second
      (round, shares first second pair one other) (sym round, shares second first pair other one)

  pub same_at_set : (pair : Pair) → Seats first pair → Seats second pair → first.set ≡ second.set → first ≡ second
  same_at_set pair one other set =
      apart_same (λ row earlier. (row.set ≡ earlier.set) × SharesPair row earlier) rows
      (λ i j d before within both. sound.sets i j d before within both.0 both.1) first second in_first in_second
      (set, shares first second pair one other) (sym set, shares second first pair other one)

  pub same_opponents : (pair other : Pair) → pair ≢ other → Seats first pair → Seats first other →
      Seats second pair → Seats second other → first ≡ second
  same_opponents pair other two one one' other_one other_one' =
      apart_same SharesBoth rows sound.opponents first second in_first in_second
      (shares_two first second pair other two one one' other_one other_one')
      (shares_two second first pair other two other_one other_one' one one')
