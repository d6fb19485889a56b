-- The boards by number, in the order of reading.
use Rattle.std.specs.Prelude.{◌≡◌, ℕ, List, Option, Some, None, nat_eq, slice_index_or, cond}
use Rattle.indexmap.specs.IndexMap.{IndexMap, get}
use Rattle.pbn_records.specs.declared.board.Board.{Board}

-- the board in the place of a number, if there is one
abbrev pub in_place : List (Option Board) → ℕ → Option Board
in_place places number = slice_index_or places number None

module _ {S : Type 0} where
  -- one board more, at its number
  abbrev pub HasOneMoreBoard : IndexMap ℕ Board S → ℕ → Board → IndexMap ℕ Board S → Type 0
  HasOneMoreBoard old number board new = (other : ℕ) →
      get nat_eq new other ≡ cond (nat_eq number other) (Some board) (get nat_eq old other)
