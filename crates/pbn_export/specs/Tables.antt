-- Tags and the rows of their tables, as they are written (PBN 2.1). A text that might end its place, or be taken for
-- something else, stands between quotes, and there `\"` stands for `"` and `\\` for `\`.
use Rattle.std.specs.Prelude.{ℕ, Bool, false, ◌||◌, nat_eq, nat_lt, if◌then◌else◌, List, [], ◌∷◌, ◌++◌, map}
use Rattle.std.specs.List.{concat, flat_map, list_all}
use Rattle.pbn_pieces.specs.Pieces.{is_tag_name_byte}

-- a control character of ASCII
abbrev pub is_control_byte : ℕ → Bool
is_control_byte byte = nat_lt byte 32 || nat_eq byte 127

-- a byte within quotes: a control character is written as `?`
abbrev pub value_byte : ℕ → List ℕ
value_byte byte =
    if nat_eq byte 34 then 92 ∷ 34 ∷ []
    else if nat_eq byte 92 then 92 ∷ 92 ∷ []
    else if is_control_byte byte then 63 ∷ []
    else byte ∷ []

-- a text within quotes
unfoldable pub value_text : List ℕ → List ℕ
value_text text = flat_map value_byte text

-- a byte that a table's item may have without quotes: a letter, a digit, `_`, `-`, `.`
abbrev pub is_word_byte : ℕ → Bool
is_word_byte byte = is_tag_name_byte byte || (nat_eq byte 45 || nat_eq byte 46)

abbrev pub is_word : List ℕ → Bool
is_word [] = false
is_word (byte ∷ bytes) = list_all is_word_byte (byte ∷ bytes)

-- an item of a table: in quotes, unless it is a word
abbrev pub item_text : List ℕ → List ℕ
item_text item = if is_word item then item else concat ((34 ∷ []) ∷ value_text item ∷ (34 ∷ []) ∷ [])

-- an item behind another
abbrev pub next_item : List ℕ → List ℕ
next_item item = concat ((32 ∷ []) ∷ item_text item ∷ [])

-- a row of a table has an item at least
pub record TableRow : Type 0 where
  pub first : List ℕ
  pub others : List (List ℕ)

-- its items with a space between them, on a line of their own
abbrev pub row_text : TableRow → List ℕ
row_text row = concat (item_text row.first ∷ (map next_item row.others ++ (10 ∷ []) ∷ []))

-- a tag, with the rows of its table
pub record GameTag : Type 0 where
  pub name : List ℕ
  pub value : List ℕ
  pub rows : List TableRow

-- its name and its value, on a line of their own, as `[Board "7"]`
abbrev pub tag_line : List ℕ → List ℕ → List ℕ
tag_line name value = concat ((91 ∷ []) ∷ name ∷ (32 ∷ 34 ∷ []) ∷ value_text value ∷ (34 ∷ 93 ∷ 10 ∷ []) ∷ [])

-- and the rows below it
abbrev pub game_tag_text : GameTag → List ℕ
game_tag_text tag = concat (tag_line tag.name tag.value ∷ concat (map row_text tag.rows) ∷ [])

-- a tag without a table
abbrev pub tag : List ℕ → List ℕ → GameTag
tag name value = record { name = name; value = value; rows = [] }

-- the tags of a game, and an empty line
abbrev pub game_text : List GameTag → List ℕ
game_text tags = concat (map game_tag_text tags ++ (10 ∷ []) ∷ [])
