-- An export (PBN 2.1): boards, each as a game, and behind them a game of what belongs to no board.
use Rattle.std.specs.Prelude.{◌≡◌, ◌+◌, ℕ, Bool, true, ◌&&◌, is_none, nat_lt, List, [], ◌∷◌, ◌++◌, length, map, codes}
use Rattle.std.specs.List.{concat, list_all}
use Rattle.cards.specs.Hands.{IsDeal}
use Rattle.pbn_pieces.specs.Pieces.{is_tag_name_byte}
use Rattle.pbn_records.specs.Tags.{used_of}
use Rattle.pbn_export.specs.Tables.{GameTag, game_text}
use Rattle.pbn_export.specs.Games.{ExportedBoard, board_game}

-- the lines that say what kind of text it is
abbrev pub export_header : List ℕ
export_header = codes "% PBN 2.1" ++ (10 ∷ (codes "% EXPORT" ++ 10 ∷ []))

-- the text of boards, and of a game behind them
abbrev pub export_text : List ExportedBoard → List GameTag → List ℕ
export_text boards last =
    concat (export_header ∷ concat (map (λ board. game_text (board_game board)) boards) ∷ game_text last ∷ [])

-- whether a tag is none by which a board is read, and has a name
abbrev pub is_further : GameTag → Bool
is_further tag = (list_all is_tag_name_byte tag.name && nat_lt 0 (length tag.name)) && is_none (used_of tag.name)

-- boards with the numbers from one on, each a deal, with tags by which no board is read
abbrev pub AreExported : ℕ → List ExportedBoard → Type 0
AreExported number [] = Unit {0}
AreExported number (board ∷ boards) =
    (board.number ≡ number) × IsDeal board.board.deal × (list_all is_further board.further ≡ true)
    × AreExported (number + 1) boards
