-- The boards of a PBN text: each is read from the first of its games that isn't ignored (PBN 2.1, in this project's
-- profile).
use Rattle.std.specs.Prelude.{
  ℕ,
  ◌+◌,
  ◌*◌,
  ◌-◌,
  Bool,
  false,
  not,
  ◌&&◌,
  ◌==◌,
  nat_le,
  if◌then◌else◌,
  List,
  [],
  ◌∷◌,
  Option,
  Some,
  None,
  fold,
  find,
}
use Rattle.std.specs.List.{list_all}
use Rattle.pbn_records.specs.declared.board.Board.{Board}
use Rattle.cards.specs.Hands.{Hands}
use Rattle.pbn_pieces.specs.Pieces.{is_digit}
use Rattle.pbn_records.specs.Bytes.{digit_zero}
use Rattle.pbn_records.specs.declared.used.Used.TheVariants as used
use Rattle.pbn_records.specs.Tags.{Valued}
use Rattle.pbn_records.specs.Values.{Values}
use Rattle.pbn_records.specs.MarkValue.{is_open, ReadsDealer, ReadsVulnerable}
use Rattle.pbn_records.specs.DealValue.{IsDealValue}

-- one digit or more
abbrev pub are_digits : List ℕ → Bool
are_digits [] = false
are_digits (byte ∷ bytes) = list_all is_digit (byte ∷ bytes)

-- the number of decimal digits, leading zeros allowed
abbrev pub decimal_number : List ℕ → ℕ
decimal_number digits = fold (λ number digit. 10 * number + (digit - digit_zero)) 0 digits

-- the number of a value, if it is that of a board
abbrev pub board_number : ℕ → List ℕ → Option ℕ
board_number boards value =
    if are_digits value && (nat_le 1 (decimal_number value) && nat_le (decimal_number value) boards) then
    Some (decimal_number value) else None

-- whether a Deal says anything
abbrev pub is_there : Option Valued → Bool
is_there None = false
is_there (Some tag) = not (is_open tag.value)

-- the number of the tag Board, if it is that of a board
abbrev pub number_in : ℕ → Option Valued → Option ℕ
number_in boards None = None
number_in boards (Some tag) = board_number boards tag.value

-- the board of a game, unless the game is ignored
abbrev pub game_board : ℕ → Values → Option ℕ
game_board boards values = if is_there (values used.Deal) then number_in boards (values used.Board) else None

-- whether this is the board
abbrev pub is_this_board : ℕ → Option ℕ → Bool
is_this_board board None = false
is_this_board board (Some other) = other == board

-- a board's first game that isn't ignored
abbrev pub first_game : ℕ → ℕ → List Values → Option Values
first_game boards board games = find (λ values. is_this_board board (game_board boards values)) games

-- the value is there, and is the deal's
abbrev pub HasDeal : Option Valued → Hands → Type 0
HasDeal None deal = ⊥
HasDeal (Some tag) deal = IsDealValue deal tag.value

-- what a board's first game says of it
pub record IsRead (number : ℕ) (values : Values) (board : Board) : Type 0 where
  pub deal : HasDeal (values used.Deal) board.deal
  pub dealer : ReadsDealer number (values used.Dealer) board.dealer
  pub vulnerability : ReadsVulnerable number (values used.Vulnerable) board.vulnerability
