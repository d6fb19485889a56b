-- For private clauses: where a reader's state stands in the games of a text.
use Rattle.std.specs.Prelude.{◌≡◌, ℕ, Bool, true, false, ◌∷◌, ◌++◌, [], List}
use Rattle.pbn_records.specs.declared.used.Used.{Used}
use Rattle.pbn_records.specs.declared.fault.Fault.{Fault}
use Rattle.pbn_records.specs.declared.state.State.{State}
use Rattle.pbn_records.specs.declared.deals_error.DealsError.{DealsError}
use Rattle.pbn_records.specs.Tags.{Placed, Named, tag_in}
use Rattle.pbn_records.specs.Values.{values_of}
use Rattle.pbn_records.specs.Faults.{HasFault}
use Rattle.pbn_records.specs.Shown.{as_written, tag_of, values_read}
use Rattle.pbn_pieces.specs.declared.piece.NextPiece.{NextPiece}
use Rattle.pbn_pieces.specs.declared.piece.NextPiece.TheVariants as found
use Rattle.pbn_records.specs.declared.deals_error.DealsError.TheVariants.{BadTag}
use Rattle.pbn_records.specs.Kept.{Walk, end_of, after_mark, Knows, IsGameFault}

-- whether a game has a tag
abbrev pub has_tags : List Placed → Bool
has_tags [] = false
has_tags (tag ∷ game) = true

-- the state is that after these games, the last of which hasn't ended, and none that has has a fault
pub record IsStateAfter (state : State) (walk : Walk) : Type 0 where
  pub started : state.started ≡ has_tags walk.game
  pub tags : (used : Used) → as_written (tag_of state.tags used) ≡ tag_in used walk.game
  pub before : (used : Used) → values_read state.before used ≡ walk.before used
  pub known : Knows state.boards walk.done state.known
  pub faultless : (fault : Fault) (offset : ℕ) → ¬ HasFault state.boards [] walk.done fault offset

-- the walk after a piece at an offset
abbrev pub walk_on : Walk → ℕ → NextPiece → Walk
walk_on walk offset (found.Tag name value) =
    after_mark walk (Named (record { offset = offset; name = name.now; value = value.now }))
walk_on walk offset found.BlankLine = end_of walk
walk_on walk offset found.BadTag = end_of walk
walk_on walk offset (found.Skipped ends_line) = walk

-- a `[` that begins no tag, after games with no fault
pub record EndsInBadTag (boards : ℕ) (walk : Walk) (seen : NextPiece) (offset : ℕ) (error : DealsError) : Type 0 where
  pub seen_so : seen ≡ found.BadTag
  pub named : error ≡ BadTag offset
  pub faultless : (fault : Fault) (place : ℕ) → ¬ HasFault boards [] (end_of walk).done fault place

-- the game that hasn't ended ends with a fault
pub record EndsInFault (boards : ℕ) (walk next : Walk) (error : DealsError) : Type 0 where
  pub ended : next.done ≡ walk.done ++ values_of walk.before walk.game ∷ []
  pub fault : IsGameFault boards walk.done (values_of walk.before walk.game) error
