-- Where there is a result.
use Rattle.std.specs.Prelude.{ℕ, Bool, zero, suc, List, [], slice_index_or, slice_set, ◌-◌}
use Rattle.movement.specs.declared.cell.Cell.{Cell}
use Rattle.movement.specs.Movement.{most_tables}
use Rattle.small_sets.specs.Numbers.{has_number, with_number, without_number}

-- the tables that have a result on a board, from the lists of board 1, 2, ..; there is no board 0
abbrev pub tables_at : List (List ℕ) → ℕ → List ℕ
tables_at live zero = []
tables_at live (suc board) = slice_index_or live board []

-- whether a table has a result on a board
abbrev pub is_live : List (List ℕ) → Cell → Bool
is_live live cell = has_number (tables_at live cell.board) cell.table

-- with a result at one table more
abbrev pub with_live : List (List ℕ) → Cell → List (List ℕ)
with_live live cell = slice_set live (cell.board - 1) (with_number most_tables (tables_at live cell.board) cell.table)

-- without the result at a table
abbrev pub without_live : List (List ℕ) → Cell → List (List ℕ)
without_live live cell =
    slice_set live (cell.board - 1) (without_number most_tables (tables_at live cell.board) cell.table)
