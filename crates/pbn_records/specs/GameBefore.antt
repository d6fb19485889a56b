-- The values in each of a text's games, and in the game before it (PBN 2.1, in this project's profile).
use Rattle.std.specs.Prelude.{
  ◌≡◌,
  ◌≢◌,
  ℕ,
  zero,
  suc,
  ◌-◌,
  ◌<◌,
  ◌≤◌,
  List,
  [],
  Option,
  Some,
  codes,
  slice_get,
  slice_index_or,
}
use Rattle.pbn_pieces.specs.Pieces.{Piece}
use Rattle.pbn_records.specs.declared.used.Used.{Used}
use Rattle.pbn_records.specs.declared.board.Board.{Board}
use Rattle.pbn_records.specs.Tags.{Placed, Valued, marks_from, tag_in, games_from}
use Rattle.pbn_records.specs.Values.{Values, no_values, all_values}
use Rattle.pbn_records.specs.Boards.{game_board}
use Rattle.pbn_records.specs.Reads.{start_of, ArePieces, Reads}

-- the games of a text of these pieces
abbrev pub games_of : List ℕ → List Piece → List (List Placed)
games_of text pieces = games_from [] (marks_from (start_of text) pieces)

-- the values in one of these games, counted from 0; where there is no such game, no tag has one
abbrev pub values_at : List (List Placed) → ℕ → Values
values_at games index = slice_index_or (all_values no_values games) index no_values

-- the values in the game before; before the first game no tag has one
abbrev pub values_before : List (List Placed) → ℕ → Values
values_before games zero = no_values
values_before games (suc index) = values_at games index

-- one of these games has the tag as it is written, or hasn't the tag
pub record IsTagAsWritten (games : List (List Placed)) (index : ℕ) (used : Used) (tag : Option Valued) : Type 0 where
  pub game : List Placed
  pub there : slice_get games index ≡ Some game
  pub written : tag_in used game ≡ tag

-- the tag's value is `#` in one of these games, and its `[` stands at this offset
abbrev pub HasHash : List (List Placed) → ℕ → Used → ℕ → Type 0
HasHash games index used offset =
    IsTagAsWritten games index used (Some (record { offset = offset; value = codes "#" }))

-- one of these games is a board's, and none before it is
pub record IsFirstOf (boards number : ℕ) (games : List (List Placed)) (index : ℕ) : Type 0 where
  pub is : game_board boards (values_at games index) ≡ Some number
  pub first : (other : ℕ) → other < index → game_board boards (values_at games other) ≢ Some number

-- the text has these games and is read, and one of them is the first of this board
pub record IsReadAt (text : List ℕ) (boards number : ℕ) (board : Board) (games : List (List Placed)) (index : ℕ)
    : Type 0 where
  pub pieces : List Piece
  pub joined : ArePieces text pieces
  pub grouped : games ≡ games_of text pieces
  pub set : List Board
  pub reads : Reads text boards set
  pub from : 1 ≤ number
  pub to : number ≤ boards
  pub there : slice_get set (number - 1) ≡ Some board
  pub first : IsFirstOf boards number games index
