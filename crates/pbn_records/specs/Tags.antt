-- The tags of a PBN text, and the games that they group into (PBN 2.1, in this project's profile).
use Rattle.std.specs.Prelude.{
  ℕ,
  ◌+◌,
  Bool,
  false,
  ◌&&◌,
  ◌==◌,
  if◌then◌else◌,
  List,
  [],
  ◌∷◌,
  ◌++◌,
  Option,
  Some,
  None,
  codes,
  bytes_eq,
}
use Rattle.std.specs.Option.{is_some, option_or}
use Rattle.pbn_pieces.specs.Pieces.{
  Piece,
  Comment,
  OpenComment,
  LineComment,
  EscapeLine,
  BlankLine,
  Quoted,
  Tagged,
  Broken,
  Plain,
  size,
}
use Rattle.pbn_records.specs.declared.used.Used.{Used}
use Rattle.pbn_records.specs.declared.used.Used.TheVariants.{Board, Dealer, Vulnerable, Deal}

-- the text without the mark EF BB BF that may stand before it
abbrev pub without_mark : List ℕ → List ℕ
without_mark [] = []
without_mark (a ∷ []) = a ∷ []
without_mark (a ∷ b ∷ []) = a ∷ b ∷ []
without_mark (a ∷ b ∷ c ∷ text) = if a == 239 && (b == 187 && c == 191) then text else a ∷ b ∷ c ∷ text

-- a tag's place, its name, and its value as written
pub record Placed : Type 0 where
  pub offset : ℕ
  pub name : List ℕ
  pub value : List ℕ

-- what games are grouped by: a tag, and a line of nothing but spaces and tabs
pub data Mark : Type 0 where
  Named : (tag : Placed) → Mark
  Break : Mark

-- the marks of a piece at an offset
abbrev pub mark_of : ℕ → Piece → List Mark
mark_of offset (Comment inside) = []
mark_of offset (OpenComment inside) = []
mark_of offset (LineComment inside) = []
mark_of offset (EscapeLine inside) = []
mark_of offset (BlankLine spaces return) = Break ∷ []
mark_of offset (Quoted within) = []
mark_of offset (Tagged tag) = Named (record { offset = offset; name = tag.name; value = tag.value }) ∷ []
mark_of offset (Broken after) = []
mark_of offset (Plain byte) = []

-- the marks of pieces, the first of which stands at an offset
abbrev pub marks_from : ℕ → List Piece → List Mark
marks_from offset [] = []
marks_from offset (piece ∷ pieces) = mark_of offset piece ++ marks_from (offset + size piece) pieces

-- whether a `[` at this offset begins no tag
abbrev pub bad_at : ℕ → Piece → Option ℕ
bad_at offset (Comment inside) = None
bad_at offset (OpenComment inside) = None
bad_at offset (LineComment inside) = None
bad_at offset (EscapeLine inside) = None
bad_at offset (BlankLine spaces return) = None
bad_at offset (Quoted within) = None
bad_at offset (Tagged tag) = None
bad_at offset (Broken after) = Some offset
bad_at offset (Plain byte) = None

-- where a `[` begins no tag
abbrev pub bad_from : ℕ → List Piece → Option ℕ
bad_from offset [] = None
bad_from offset (piece ∷ pieces) = option_or (bad_at offset piece) (bad_from (offset + size piece) pieces)

-- the name of a used tag
abbrev pub tag_name : Used → List ℕ
tag_name Board = codes "Board"
tag_name Dealer = codes "Dealer"
tag_name Vulnerable = codes "Vulnerable"
tag_name Deal = codes "Deal"

-- the used tag of a name; all others are skipped
abbrev pub used_of : List ℕ → Option Used
used_of name =
    if bytes_eq name (codes "Board") then Some Board
    else if bytes_eq name (codes "Dealer") then Some Dealer
    else if bytes_eq name (codes "Vulnerable") then Some Vulnerable
    else if bytes_eq name (codes "Deal") then Some Deal
    else None

-- a value, with the offset of the `[` of its tag
pub record Valued : Type 0 where
  pub offset : ℕ
  pub value : List ℕ

-- the used tag of a game, with its value as written
abbrev pub tag_in : Used → List Placed → Option Valued
tag_in used [] = None
tag_in used (tag ∷ game) =
    if bytes_eq tag.name (tag_name used) then
    Some (record { offset = tag.offset; value = tag.value }) else tag_in used game

-- whether the game has the used tag already
abbrev pub has_already : List Placed → Option Used → Bool
has_already game None = false
has_already game (Some used) = is_some (tag_in used game)

-- a game has at least one tag, used or not
abbrev pub ended : List Placed → List (List Placed) → List (List Placed)
ended [] games = games
ended (tag ∷ game) games = (tag ∷ game) ∷ games

-- the games of these marks, where the first game has these tags already: a game ends at a blank line, at a used tag
-- that it has
-- already, which begins the next one, or at the end
abbrev pub games_from : List Placed → List Mark → List (List Placed)
games_from game [] = ended game []
games_from game (Break ∷ marks) = ended game (games_from [] marks)
games_from game (Named tag ∷ marks) =
    if has_already game (used_of tag.name) then ended game (games_from (tag ∷ []) marks)
    else games_from (game ++ tag ∷ []) marks
