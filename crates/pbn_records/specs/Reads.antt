-- What is read from a PBN text (PBN 2.1, in this project's profile): its boards, or why none are.
use Rattle.std.specs.Prelude.{◌≡◌, ℕ, ◌-◌, ◌<◌, ◌≤◌, true, ◌⊎◌, List, [], Some, None, length, slice_get}
use Rattle.pbn_pieces.specs.Pieces.{Piece, Joins}
use Rattle.pbn_records.specs.declared.fault.Fault.{Fault}
use Rattle.pbn_records.specs.declared.fault.Fault.TheVariants as kind
use Rattle.pbn_records.specs.declared.deals_error.DealsError.{DealsError}
use Rattle.pbn_records.specs.declared.deals_error.DealsError.TheVariants.{
  BadTag,
  BadDeal,
  HiddenHand,
  BadMark,
  DealConflict,
  InheritedForm,
  MissingBoard,
  OutOfMemory,
}
use Rattle.pbn_records.specs.Tags.{without_mark, marks_from, bad_from, games_from}
use Rattle.pbn_records.specs.Values.{Values, no_values, all_values}
use Rattle.pbn_records.specs.Boards.{first_game, IsRead}
use Rattle.pbn_records.specs.declared.board.Board.{Board}
use Rattle.pbn_records.specs.Faults.{HasFault}

-- where the text begins, after the mark that may stand before it
abbrev pub start_of : List ℕ → ℕ
start_of text = length text - length (without_mark text)

-- the values of each game of these pieces, the first of which stands at an offset
abbrev pub values_from : ℕ → List Piece → List Values
values_from start pieces = all_values no_values (games_from [] (marks_from start pieces))

-- the pieces of a text
abbrev pub ArePieces : List ℕ → List Piece → Type 0
ArePieces text pieces = Joins true pieces (without_mark text)

-- a fault of a text of these pieces, at an offset
abbrev pub IsFault : ℕ → ℕ → List Piece → Fault → ℕ → Type 0
IsFault boards start pieces fault offset =
    HasFault boards [] (values_from start pieces) fault offset
    ⊎ ((fault ≡ kind.BadTag) × (bad_from start pieces ≡ Some offset))

-- no fault
abbrev pub IsFaultless : ℕ → ℕ → List Piece → Type 0
IsFaultless boards start pieces = (fault : Fault) (offset : ℕ) → ¬ IsFault boards start pieces fault offset

-- a fault, and none has a lesser offset
pub record IsFirstFault (text : List ℕ) (boards : ℕ) (fault : Fault) (offset : ℕ) : Type 0 where
  pub pieces : List Piece
  pub joined : ArePieces text pieces
  pub is : IsFault boards (start_of text) pieces fault offset
  pub least : (other : Fault) (place : ℕ) → IsFault boards (start_of text) pieces other place → offset ≤ place

-- the text has no fault, and the board is the least without a deal
pub record IsLeastMissing (text : List ℕ) (boards : ℕ) (board : ℕ) : Type 0 where
  pub pieces : List Piece
  pub joined : ArePieces text pieces
  pub faultless : IsFaultless boards (start_of text) pieces
  pub from : 1 ≤ board
  pub to : board ≤ boards
  pub missing : first_game boards board (values_from (start_of text) pieces) ≡ None
  pub least : (other : ℕ) → 1 ≤ other → other < board →
      (values : Values) × (first_game boards other (values_from (start_of text) pieces) ≡ Some values)

-- the text has no fault, and the boards from 1 are what their first games say
pub record Reads (text : List ℕ) (boards : ℕ) (set : List Board) : Type 0 where
  pub pieces : List Piece
  pub joined : ArePieces text pieces
  pub faultless : IsFaultless boards (start_of text) pieces
  pub many : length set ≡ boards
  pub read : (number : ℕ) → 1 ≤ number → number ≤ boards →
      (values : Values) × (board : Board) × (first_game boards number (values_from (start_of text) pieces) ≡
      Some values) ×
      (slice_get set (number - 1) ≡ Some board) × IsRead number values board

-- why a text is refused: the fault of least offset, else the least board without a deal, else, where there is a set to
-- give, want of memory
abbrev pub IsRefused : DealsError → List ℕ → ℕ → Type 0
IsRefused (BadTag offset) text boards = IsFirstFault text boards kind.BadTag offset
IsRefused (BadDeal offset) text boards = IsFirstFault text boards kind.BadDeal offset
IsRefused (HiddenHand offset) text boards = IsFirstFault text boards kind.HiddenHand offset
IsRefused (BadMark offset) text boards = IsFirstFault text boards kind.BadMark offset
IsRefused (DealConflict offset) text boards = IsFirstFault text boards kind.DealConflict offset
IsRefused (InheritedForm offset) text boards = IsFirstFault text boards kind.InheritedForm offset
IsRefused (MissingBoard board) text boards = IsLeastMissing text boards board
IsRefused OutOfMemory text boards = (set : List Board) × Reads text boards set
