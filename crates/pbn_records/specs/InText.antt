-- For private clauses: where a reader is in a text.
use Rattle.std.specs.Prelude.{◌≡◌, ◌≤◌, ◌<◌, ℕ, ◌-◌, List, length}
use Rattle.std.specs.List.{AllByRecursion}
use Rattle.pbn_pieces.specs.Pieces.{Piece, Joins}
use Rattle.pbn_pieces.specs.Told.{Uncut}
use Rattle.pbn_records.specs.declared.state.State.{State}
use Rattle.pbn_records.specs.Tags.{Placed, marks_from, bad_from}
use Rattle.pbn_records.specs.Kept.{Walk, Knows, all_games}
use Rattle.pbn_records.specs.At.{IsStateAfter}
use Rattle.pbn_records.specs.Reads.{start_of, values_from, ArePieces, IsFaultless}

-- the games so far, and those of what is left, are those of the text
pub record IsInText (text : List ℕ) (uncut : Uncut) (walk : Walk) : Type 0 where
  pub within : length uncut.rest ≤ length text
  pub below : AllByRecursion (λ (tag : Placed). tag.offset < length text - length uncut.rest) walk.game
  pub whole : (more : List Piece) → Joins uncut.starting more uncut.rest →
      (all : List Piece) × ArePieces text all ×
      (values_from (start_of text) all ≡ all_games walk (marks_from (length text - length uncut.rest) more)) ×
      (bad_from (start_of text) all ≡ bad_from (length text - length uncut.rest) more)

-- a whole text is gone over, with no fault, and the boards of its games are known
pub record HasRead (text : List ℕ) (boards : ℕ) (state : State) : Type 0 where
  pub pieces : List Piece
  pub joined : ArePieces text pieces
  pub faultless : IsFaultless boards (start_of text) pieces
  pub known : Knows boards (values_from (start_of text) pieces) state.known

-- and the state stands there
pub record StandsInText (text : List ℕ) (uncut : Uncut) (boards : ℕ) (state : State) : Type 0 where
  pub walk : Walk
  pub same : state.boards ≡ boards
  pub at : IsStateAfter state walk
  pub in_text : IsInText text uncut walk
