-- The faults of a PBN text, each at the offset of a `[` (PBN 2.1, in this project's profile).
use Rattle.std.specs.Prelude.{◌≡◌, ◌≢◌, ℕ, true, false, ◌⊎◌, List, [], ◌∷◌, ◌++◌, Option, Some, None}
use Rattle.cards.specs.Hands.{Hands}
use Rattle.pbn_records.specs.declared.used.Used.{Used}
use Rattle.pbn_records.specs.declared.used.Used.TheVariants as used
use Rattle.pbn_records.specs.declared.fault.Fault.{Fault}
use Rattle.pbn_records.specs.declared.fault.Fault.TheVariants.{
  BadTag,
  BadDeal,
  HiddenHand,
  BadMark,
  DealConflict,
  InheritedForm,
}
use Rattle.pbn_records.specs.Tags.{Valued}
use Rattle.pbn_records.specs.Values.{Values, is_inherited_form}
use Rattle.pbn_records.specs.MarkValue.{IsBadDealer, IsBadVulnerable}
use Rattle.pbn_records.specs.DealValue.{IsDealValue, IsHiddenValue}
use Rattle.pbn_records.specs.Boards.{game_board, first_game, HasDeal}

-- the board has an earlier game, with another deal
abbrev pub IsConflict : Option Values → Hands → Type 0
IsConflict None deal = ⊥
IsConflict (Some first) deal = (other : Hands) × HasDeal (first used.Deal) other × (other ≢ deal)

-- the fault of a Deal whose value doesn't begin with `##`, where the board's first game is this one
abbrev pub DealFault : Option Values → List ℕ → Fault → Type 0
DealFault first value BadTag = ⊥
DealFault first value BadDeal = (¬ IsHiddenValue value) × ((deal : Hands) → ¬ IsDealValue deal value)
DealFault first value HiddenHand = IsHiddenValue value
DealFault first value BadMark = ⊥
DealFault first value DealConflict = (deal : Hands) × IsDealValue deal value × IsConflict first deal
DealFault first value InheritedForm = ⊥

-- the fault of a used tag whose value doesn't begin with `##`, in a game of a board; marks are read in a board's
-- first game alone
abbrev pub BoardFault : Option Values → Used → List ℕ → Fault → Type 0
BoardFault first used.Board value fault = ⊥
BoardFault first used.Dealer value fault = (first ≡ None) × (fault ≡ BadMark) × IsBadDealer value
BoardFault first used.Vulnerable value fault = (first ≡ None) × (fault ≡ BadMark) × IsBadVulnerable value
BoardFault first used.Deal value fault = DealFault first value fault

-- the fault of a used tag, in a game of this board or of none: a value that begins with `##` has no other fault
abbrev pub TagFault : Option ℕ → Option Values → Used → List ℕ → Fault → Type 0
TagFault board first used value fault =
    (is_inherited_form value ≡ true → fault ≡ InheritedForm) ×
    (is_inherited_form value ≡ false → (board ≢ None) × BoardFault first used value fault)

-- the same, at the tag's offset
abbrev pub FaultAtTag : Option ℕ → Option Values → Used → Option Valued → Fault → ℕ → Type 0
FaultAtTag board first used None fault offset = ⊥
FaultAtTag board first used (Some tag) fault offset = (tag.offset ≡ offset) × TagFault board first used tag.value fault

-- the first game of a board, if it is a board's
abbrev pub first_game_if_any : ℕ → List Values → Option ℕ → Option Values
first_game_if_any boards games None = None
first_game_if_any boards games (Some board) = first_game boards board games

-- a fault of a game, at an offset, where these are the games before it
abbrev pub IsFaultOf : ℕ → List Values → Values → Fault → ℕ → Type 0
IsFaultOf boards before values fault offset =
    (used : Used) ×
    FaultAtTag (game_board boards values) (first_game_if_any boards before (game_board boards values))
    used (values used) fault offset

-- a fault of one of the games, where these are before them
abbrev pub HasFault : ℕ → List Values → List Values → Fault → ℕ → Type 0
HasFault boards before [] fault offset = ⊥
HasFault boards before (values ∷ games) fault offset =
    IsFaultOf boards before values fault offset ⊎ HasFault boards (before ++ values ∷ []) games fault offset
