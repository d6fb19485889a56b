-- How a board is written.
use Rattle.std.specs.Prelude.{ℕ, List, [], ◌∷◌, ◌++◌, codes}
use Rattle.std.specs.Fmt.{decimal}
use Rattle.table_terms.specs.Place.{place_letter}
use Rattle.table_terms.specs.Vulnerability.{vulnerability_text}
use Rattle.cards.specs.HandText.{deal_text}
use Rattle.pbn_records.specs.declared.board.Board.{Board}

-- its number, its dealer, who is vulnerable, and its deal, with a space between them and an LF
abbrev pub line_text : ℕ → Board → List ℕ
line_text number board =
    decimal number ++ (codes " " ++ (place_letter board.dealer ∷
    (codes " " ++ (vulnerability_text board.vulnerability ++ (codes " " ++ (deal_text board.deal ++ 10 ∷ []))))))
