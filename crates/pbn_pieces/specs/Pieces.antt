-- What a PBN text is joined of (PBN 2.1, in this project's reading): comments, escape lines, quoted texts, tags, lines
-- of nothing but blanks, and plain bytes. Bytes are ASCII.
use Rattle.std.specs.Prelude.{
  ◌≡◌,
  ◌≢◌,
  ℕ,
  ◌<◌,
  Bool,
  true,
  false,
  not,
  ◌||◌,
  ◌&&◌,
  ◌==◌,
  nat_le,
  if◌then◌else◌,
  List,
  [],
  ◌∷◌,
  ◌++◌,
  length,
}
use Rattle.pbn_pieces.specs.Bytes.{
  tab,
  line_feed,
  carriage_return,
  space,
  quote,
  percent,
  semicolon,
  open_bracket,
  backslash,
  close_bracket,
  underscore,
  open_brace,
  close_brace,
}
use Rattle.std.specs.List.{AllByRecursion}

-- space, tab, CR, LF
abbrev pub is_blank : ℕ → Bool
is_blank byte = byte == space || (byte == tab || (byte == carriage_return || byte == line_feed))

-- space and tab
abbrev pub is_space : ℕ → Bool
is_space byte = byte == space || byte == tab

abbrev pub is_byte_between : ℕ → ℕ → ℕ → Bool
is_byte_between least most byte = nat_le least byte && nat_le byte most

-- A to Z
abbrev pub is_capital : ℕ → Bool
is_capital byte = is_byte_between 65 90 byte

-- a to z
abbrev pub is_small : ℕ → Bool
is_small byte = is_byte_between 97 122 byte

-- 0 to 9
abbrev pub is_digit : ℕ → Bool
is_digit byte = is_byte_between 48 57 byte

-- ASCII letters, digits and `_`
abbrev pub is_tag_name_byte : ℕ → Bool
is_tag_name_byte byte = is_capital byte || (is_small byte || (is_digit byte || byte == underscore))

abbrev pub is_other_than : ℕ → ℕ → Bool
is_other_than end byte = not (byte == end)

-- every byte passes the test
abbrev pub Each : (ℕ → Bool) → List ℕ → Type 0
Each test bytes = AllByRecursion (λ byte. test byte ≡ true) bytes

-- `\"` and `\\`
abbrev pub is_escape : ℕ → ℕ → Bool
is_escape first second = first == backslash && (second == quote || second == backslash)

-- a byte that stands for itself within quotes: neither `"` nor LF
abbrev pub is_letter : ℕ → Bool
is_letter byte = not (byte == quote) && not (byte == line_feed)

-- what may stand within quotes: `\"`, `\\`, and other bytes but `"` and LF; the last isn't a `\`, which would be read
-- with the closing `"`
abbrev pub is_within_quotes : List ℕ → Bool
is_within_quotes [] = true
is_within_quotes (byte ∷ []) = is_letter byte && not (byte == backslash)
is_within_quotes (byte ∷ next ∷ bytes) =
    if is_escape byte next then is_within_quotes bytes else is_letter byte && is_within_quotes (next ∷ bytes)

abbrev pub IsWithinQuotes : List ℕ → Type 0
IsWithinQuotes bytes = is_within_quotes bytes ≡ true

-- a quoted text stands at the front, after its opening `"`
pub record Quotes (bytes : List ℕ) : Type 0 where
  pub within : List ℕ
  pub rest : List ℕ
  pub joined : bytes ≡ within ++ quote ∷ rest
  pub is_within : IsWithinQuotes within

-- a tag as it is written: blanks, a name, blanks, a value in quotes, blanks
pub record Tag : Type 0 where
  pub before : List ℕ
  pub name : List ℕ
  pub between : List ℕ
  pub value : List ℕ
  pub after : List ℕ

abbrev pub tag_text : Tag → List ℕ → List ℕ
tag_text tag rest =
    tag.before ++ (tag.name ++ (tag.between ++ quote ∷ (tag.value ++ quote ∷ (tag.after ++ close_bracket ∷ rest))))

pub record IsTag (tag : Tag) : Type 0 where
  pub before : Each is_blank tag.before
  pub name : Each is_tag_name_byte tag.name
  pub named : 0 < length tag.name
  pub between : Each is_blank tag.between
  pub value : IsWithinQuotes tag.value
  pub after : Each is_blank tag.after

-- a tag stands at the front, after its `[`
pub record HasTag (bytes : List ℕ) : Type 0 where
  pub tag : Tag
  pub rest : List ℕ
  pub joined : bytes ≡ tag_text tag rest
  pub is_tag : IsTag tag

-- what a text is joined of
pub data Piece : Type 0 where
  -- `{` and what stands up to the next `}`, with it
  Comment : (inside : List ℕ) → Piece
  -- `{` and all that stands after it, with no `}`
  OpenComment : (inside : List ℕ) → Piece
  -- `;` and the line's rest
  LineComment : (inside : List ℕ) → Piece
  -- `%` at a line's start, and the line's rest
  EscapeLine : (inside : List ℕ) → Piece
  -- a line of spaces and tabs, with one CR before its LF or none
  BlankLine : (spaces : List ℕ) (return : Bool) → Piece
  Quoted : (within : List ℕ) → Piece
  Tagged : (tag : Tag) → Piece
  -- a `[` that begins no tag, and all that stands after it
  Broken : (after : List ℕ) → Piece
  Plain : (byte : ℕ) → Piece

-- a piece's bytes, and a text after them
abbrev pub spelled : Piece → List ℕ → List ℕ
spelled (Comment inside) rest = open_brace ∷ (inside ++ close_brace ∷ rest)
spelled (OpenComment inside) rest = open_brace ∷ (inside ++ rest)
spelled (LineComment inside) rest = semicolon ∷ (inside ++ rest)
spelled (EscapeLine inside) rest = percent ∷ (inside ++ rest)
spelled (BlankLine spaces return) rest =
    spaces ++ (if return then carriage_return ∷ line_feed ∷ rest else line_feed ∷ rest)
spelled (Quoted within) rest = quote ∷ (within ++ quote ∷ rest)
spelled (Tagged tag) rest = open_bracket ∷ tag_text tag rest
spelled (Broken after) rest = open_bracket ∷ (after ++ rest)
spelled (Plain byte) rest = byte ∷ rest

-- how many bytes a piece has
abbrev pub size : Piece → ℕ
size piece = length (spelled piece [])

-- nothing stands there, or an LF
abbrev pub AtLineEnd : List ℕ → Type 0
AtLineEnd [] = Unit {0}
AtLineEnd (byte ∷ bytes) = byte ≡ line_feed

-- a line of nothing but blanks stands at the front
pub record HasBlankLine (bytes : List ℕ) : Type 0 where
  pub spaces : List ℕ
  pub return : Bool
  pub rest : List ℕ
  pub joined : bytes ≡ spelled (BlankLine spaces return) rest
  pub each : Each is_space spaces

-- the piece may stand here, at a line's start or within a line, before this rest
abbrev pub MayStand : Bool → Piece → List ℕ → Type 0
MayStand starting (Comment inside) rest = Each (is_other_than close_brace) inside
MayStand starting (OpenComment inside) rest = Each (is_other_than close_brace) inside × (rest ≡ [])
MayStand starting (LineComment inside) rest = Each (is_other_than line_feed) inside × AtLineEnd rest
MayStand starting (EscapeLine inside) rest = (starting ≡ true) × Each (is_other_than line_feed) inside × AtLineEnd rest
MayStand starting (BlankLine spaces return) rest = (starting ≡ true) × Each is_space spaces
MayStand starting (Quoted within) rest = IsWithinQuotes within
MayStand starting (Tagged tag) rest = IsTag tag
MayStand starting (Broken after) rest = (rest ≡ []) × ¬ HasTag after
MayStand starting (Plain byte) rest =
    (byte ≢ open_brace) × (byte ≢ semicolon) × (byte ≢ open_bracket) × (byte ≡ quote → ¬ Quotes rest) ×
    (starting ≡ true → (byte ≢ percent) × ¬ HasBlankLine (byte ∷ rest))

-- whether a line starts after the piece
abbrev pub starts_line : Piece → Bool
starts_line (Comment inside) = false
starts_line (OpenComment inside) = false
starts_line (LineComment inside) = false
starts_line (EscapeLine inside) = false
starts_line (BlankLine spaces return) = true
starts_line (Quoted within) = false
starts_line (Tagged tag) = false
starts_line (Broken after) = false
starts_line (Plain byte) = byte == line_feed

-- the text, at a line's start or within a line, is these pieces one after another, and each may stand where it does
abbrev pub Joins : Bool → List Piece → List ℕ → Type 0
Joins starting [] text = text ≡ []
Joins starting (piece ∷ pieces) text =
    (rest : List ℕ) × (text ≡ spelled piece rest) × MayStand starting piece rest × Joins (starts_line piece) pieces rest

-- the pieces of a text are this one and those of the rest
abbrev pub Begins : List Piece → Piece → List ℕ → Type 0
Begins pieces piece rest = (more : List Piece) × (pieces ≡ piece ∷ more) × Joins (starts_line piece) more rest
