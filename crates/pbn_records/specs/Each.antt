-- For private clauses: the boards that are known, in a row.
use Rattle.std.specs.Prelude.{◌≡◌, ◌+◌, ◌<◌, ℕ, true, List, None, length, slice_get}
use Rattle.std.specs.Option.{is_some}
use Rattle.pbn_records.specs.declared.board.Board.{Board}
use Rattle.pbn_records.specs.declared.known_boards.KnownBoards.{KnownBoards}
use Rattle.pbn_records.specs.Kept.{board_at}

-- the first boards are known
abbrev pub KnowsFirst : KnownBoards → ℕ → Type 0
KnowsFirst known boards = (index : ℕ) → index < boards → is_some (board_at known (index + 1)) ≡ true

-- the least board that isn't known
pub record IsUnknown (known : KnownBoards) (boards number : ℕ) : Type 0 where
  pub index : ℕ
  pub numbered : number ≡ index + 1
  pub within : index < boards
  pub none : board_at known number ≡ None
  pub others : KnowsFirst known index

-- the first boards stand in a row
pub record HasFirst (known : KnownBoards) (boards : ℕ) (set : List Board) : Type 0 where
  pub many : length set ≡ boards
  pub each : (index : ℕ) → index < boards → slice_get set index ≡ board_at known (index + 1)
