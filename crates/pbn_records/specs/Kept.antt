-- For private clauses: what the reader knows while it goes through a text.
use Rattle.std.specs.Prelude.{◌≡◌, ◌≢◌, ◌≤◌, ℕ, if◌then◌else◌, nat_le, List, [], ◌∷◌, ◌++◌, Option, Some, None}
use Rattle.pbn_records.specs.declared.known_boards.KnownBoards.{KnownBoards}
use Rattle.pbn_records.specs.InOrder.{in_place}
use Rattle.cards.specs.Hands.{Hands}
use Rattle.pbn_records.specs.declared.used.Used.{Used}
use Rattle.pbn_records.specs.declared.used.Used.TheVariants as used
use Rattle.pbn_records.specs.declared.board.Board.{Board}
use Rattle.pbn_records.specs.declared.fault.Fault.{Fault}
use Rattle.pbn_records.specs.declared.fault.Fault.TheVariants as kind
use Rattle.pbn_records.specs.declared.fault.FaultAt.{FaultAt}
use Rattle.pbn_records.specs.declared.deals_error.DealsError.{DealsError}
use Rattle.pbn_records.specs.declared.deals_error.DealsError.TheVariants.{
  BadTag,
  BadDeal,
  HiddenHand,
  BadMark,
  DealConflict,
  InheritedForm,
}
use Rattle.pbn_records.specs.Tags.{Placed, Valued, Mark, Named, Break, used_of, has_already, games_from}
use Rattle.pbn_records.specs.Values.{Values, values_of, all_values}
use Rattle.pbn_records.specs.MarkValue.{IsBadDealer, IsBadVulnerable}
use Rattle.pbn_records.specs.Boards.{first_game, HasDeal, IsRead}
use Rattle.pbn_records.specs.Faults.{FaultAtTag, IsFaultOf}

-- the board's deal is known by its first game, if it had one
abbrev pub KnowsDeal : Option Values → Option Board → Type 0
KnowsDeal None None = Unit {0}
KnowsDeal None (Some board) = ⊥
KnowsDeal (Some values) None = ⊥
KnowsDeal (Some values) (Some board) = HasDeal (values used.Deal) board.deal

-- a board is known, with another deal
abbrev pub IsOther : Option Board → Hands → Type 0
IsOther None deal = ⊥
IsOther (Some board) deal = board.deal ≢ deal

-- a board is known by its first game, if it had one
abbrev pub KnowsBoard : ℕ → Option Values → Option Board → Type 0
KnowsBoard number None None = Unit {0}
KnowsBoard number None (Some board) = ⊥
KnowsBoard number (Some values) None = ⊥
KnowsBoard number (Some values) (Some board) = IsRead number values board

-- what is known of a board
abbrev pub board_at : KnownBoards → ℕ → Option Board
board_at known number = in_place known.places number

-- the boards of these games are known
abbrev pub Knows : ℕ → List Values → KnownBoards → Type 0
Knows boards games known = (number : ℕ) → KnowsBoard number (first_game boards number games) (board_at known number)

-- the earlier of two faults
abbrev pub earlier_of : Option FaultAt → Option FaultAt → Option FaultAt
earlier_of None other = other
earlier_of (Some one) None = Some one
earlier_of (Some one) (Some other) = if nat_le one.offset other.offset then Some one else Some other

-- what is found is the fault of least offset
abbrev pub Finds : Option FaultAt → (Fault → ℕ → Type 0) → Type 0
Finds None P = (fault : Fault) (offset : ℕ) → ¬ P fault offset
Finds (Some found) P = P found.fault found.offset × ((fault : Fault) (offset : ℕ) → P fault offset →
    found.offset ≤ offset)

-- a fault of a game's tags
abbrev pub HasTagFault : Option ℕ → Option Values → Values → Fault → ℕ → Type 0
HasTagFault board first values fault offset = (used : Used) × FaultAtTag board first used (values used) fault offset

-- a tag with a value that is no dealer's
abbrev pub HasBadDealer : Option Valued → Type 0
HasBadDealer None = ⊥
HasBadDealer (Some tag) = IsBadDealer tag.value

-- a tag with a value that is no marking's
abbrev pub HasBadVulnerable : Option Valued → Type 0
HasBadVulnerable None = ⊥
HasBadVulnerable (Some tag) = IsBadVulnerable tag.value

-- the refusal for a fault at an offset
abbrev pub error_of : Fault → ℕ → DealsError
error_of kind.BadTag offset = BadTag offset
error_of kind.BadDeal offset = BadDeal offset
error_of kind.HiddenHand offset = HiddenHand offset
error_of kind.BadMark offset = BadMark offset
error_of kind.DealConflict offset = DealConflict offset
error_of kind.InheritedForm offset = InheritedForm offset

-- the first fault of a game, where these are the games before it
pub record IsGameFault (boards : ℕ) (before : List Values) (values : Values) (error : DealsError) : Type 0 where
  pub fault : Fault
  pub offset : ℕ
  pub is : IsFaultOf boards before values fault offset
  pub least : (other : Fault) (place : ℕ) → IsFaultOf boards before values other place → offset ≤ place
  pub named : error ≡ error_of fault offset

-- the games that have ended, the values of the last of them, and the tags of the game that hasn't
pub record Walk : Type 0 where
  pub done : List Values
  pub before : Values
  pub game : List Placed

-- the game ends, if it has a tag
abbrev pub ended_walk : List Values → Values → List Placed → Walk
ended_walk done before [] = record { done = done; before = before; game = [] }
ended_walk done before (tag ∷ game) = record {
  done = done ++ values_of before (tag ∷ game) ∷ [];
  before = values_of before (tag ∷ game);
  game = [];
}

-- the walk once its game ends
abbrev pub end_of : Walk → Walk
end_of walk = ended_walk walk.done walk.before walk.game

-- one more tag
abbrev pub add_to : Walk → Placed → Walk
add_to walk tag = record walk { game = walk.game ++ tag ∷ [] }

-- one mark more
abbrev pub after_mark : Walk → Mark → Walk
after_mark walk Break = end_of walk
after_mark walk (Named tag) =
    if has_already walk.game (used_of tag.name) then add_to (end_of walk) tag else add_to walk tag

-- the values of all games, where these marks are still to come
abbrev pub all_games : Walk → List Mark → List Values
all_games walk marks = walk.done ++ all_values walk.before (games_from walk.game marks)
