-- A board as the game of an export (PBN 2.1): the tags that each game has to have, in their order, and further ones.
use Rattle.std.specs.Prelude.{ℕ, List, [], ◌∷◌, codes}
use Rattle.std.specs.Fmt.{decimal}
use Rattle.cards.specs.HandText.{deal_text}
use Rattle.table_terms.specs.Place.{place_letter}
use Rattle.table_terms.specs.declared.vulnerability.Vulnerability.{Vulnerability}
use Rattle.table_terms.specs.declared.vulnerability.Vulnerability.TheVariants.{Neither, NorthSouth, EastWest, Both}
use Rattle.pbn_records.specs.declared.board.Board.{Board}
use Rattle.pbn_export.specs.Tables.{GameTag, tag}

-- a board that is exported
pub record ExportedBoard : Type 0 where
  pub number : ℕ
  -- what the event is called, and its day
  pub event : List ℕ
  pub date : List ℕ
  pub board : Board
  -- tags that are not among those that each game has
  pub further : List GameTag

-- the word of a marking
abbrev pub vulnerable_word : Vulnerability → List ℕ
vulnerable_word Neither = codes "None"
vulnerable_word NorthSouth = codes "NS"
vulnerable_word EastWest = codes "EW"
vulnerable_word Both = codes "All"

-- what isn't known, or differs from table to table
abbrev pub unknown : List ℕ
unknown = codes "?"

-- the game of a board
abbrev pub board_game : ExportedBoard → List GameTag
board_game b =
    tag (codes "Event") b.event
    ∷ tag (codes "Site") unknown
    ∷ tag (codes "Date") b.date
    ∷ tag (codes "Board") (decimal b.number)
    ∷ tag (codes "West") unknown
    ∷ tag (codes "North") unknown
    ∷ tag (codes "East") unknown
    ∷ tag (codes "South") unknown
    ∷ tag (codes "Dealer") (place_letter b.board.dealer ∷ [])
    ∷ tag (codes "Vulnerable") (vulnerable_word b.board.vulnerability)
    ∷ tag (codes "Deal") (deal_text b.board.deal)
    ∷ tag (codes "Scoring") (codes "MP")
    ∷ tag (codes "Declarer") unknown
    ∷ tag (codes "Contract") unknown
    ∷ tag (codes "Result") unknown
    ∷ b.further
