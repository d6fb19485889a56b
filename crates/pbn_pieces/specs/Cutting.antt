-- The first piece of a text, computed.
use Rattle.std.specs.Prelude.{ℕ, Bool, true, false, ◌==◌, ◌&&◌, if◌then◌else◌, List, [], ◌∷◌, Option, Some, None}
use Rattle.pbn_pieces.specs.Bytes.{
  line_feed,
  carriage_return,
  quote,
  percent,
  semicolon,
  open_bracket,
  close_bracket,
  open_brace,
  close_brace,
}
use Rattle.pbn_pieces.specs.Pieces.{
  is_blank,
  is_space,
  is_tag_name_byte,
  is_other_than,
  is_escape,
  Tag,
  Piece,
  Comment,
  OpenComment,
  LineComment,
  EscapeLine,
  BlankLine,
  Quoted,
  Tagged,
  Broken,
  Plain,
}

-- the bytes up to the first that fails the test, and the others
abbrev pub split : (ℕ → Bool) → List ℕ → List ℕ × List ℕ
split test [] = ([], [])
split test (byte ∷ bytes) = if test byte
    then (byte ∷ (split test bytes).0, (split test bytes).1) else ([], byte ∷ bytes)

-- what stands after this byte
abbrev pub after_byte : ℕ → List ℕ → Option (List ℕ)
after_byte wanted [] = None
after_byte wanted (byte ∷ bytes) = if byte == wanted then Some bytes else None

abbrev pub in_front : ℕ → Option (List ℕ × List ℕ) → Option (List ℕ × List ℕ)
in_front byte None = None
in_front byte (Some (within, rest)) = Some (byte ∷ within, rest)

-- what stands before the closing `"` on the line, and after it
abbrev pub closing : List ℕ → Option (List ℕ × List ℕ)
closing [] = None
closing (byte ∷ []) = if byte == quote then Some ([], []) else None
closing (byte ∷ next ∷ bytes) =
    if byte == quote then Some ([], next ∷ bytes)
    else if byte == line_feed then None
    else if is_escape byte next then in_front byte (in_front next (closing bytes))
    else in_front byte (closing (next ∷ bytes))

infixl 10 ◌>>=◌
abbrev pub ◌>>=◌ : {A B : Type 0} → Option A → (A → Option B) → Option B
None >>= f = None
(Some x) >>= f = f x

abbrev pub nonempty_name : List ℕ → List ℕ → Option (List ℕ × List ℕ)
nonempty_name [] rest = None
nonempty_name (byte ∷ bytes) rest = Some (byte ∷ bytes, rest)

-- a name of at least one byte
abbrev pub tag_name_at : List ℕ → Option (List ℕ × List ℕ)
tag_name_at bytes = let name = split is_tag_name_byte bytes in nonempty_name name.0 name.1

-- the tag that stands after a `[`
unfoldable pub tag_at : List ℕ → Option (Tag × List ℕ)
tag_at bytes = do
  before ← Some (split is_blank bytes)
  name ← tag_name_at before.1
  between ← Some (split is_blank name.1)
  opened ← after_byte quote between.1
  value ← closing opened
  after ← Some (split is_blank value.1)
  rest ← after_byte close_bracket after.1
  Some (record { before = before.0; name = name.0; between = between.0; value = value.0; after = after.0 }, rest)

abbrev pub line_end : List ℕ → Option (Bool × List ℕ)
line_end [] = None
line_end (byte ∷ []) = if byte == line_feed then Some (false, []) else None
line_end (byte ∷ next ∷ bytes) =
    if byte == line_feed then Some (false, next ∷ bytes)
    else if byte == carriage_return && next == line_feed then Some (true, bytes)
    else None

abbrev pub blank_before : List ℕ → Option (Bool × List ℕ) → Option (Piece × List ℕ)
blank_before spaces None = None
blank_before spaces (Some (return, rest)) = Some (BlankLine spaces return, rest)

abbrev pub blank_line : List ℕ → Option (Piece × List ℕ)
blank_line bytes = let spaces = split is_space bytes in blank_before spaces.0 (line_end spaces.1)

abbrev pub comment_at : List ℕ → List ℕ → Piece × List ℕ
comment_at inside [] = (OpenComment inside, [])
comment_at inside (byte ∷ rest) = (Comment inside, rest)

abbrev pub quoted_at : List ℕ → Option (List ℕ × List ℕ) → Piece × List ℕ
quoted_at bytes None = (Plain quote, bytes)
quoted_at bytes (Some (within, rest)) = (Quoted within, rest)

abbrev pub tagged_at : List ℕ → Option (Tag × List ℕ) → Piece × List ℕ
tagged_at bytes None = (Broken bytes, [])
tagged_at bytes (Some (tag, rest)) = (Tagged tag, rest)

-- the piece that begins with this byte, where no blank line does
abbrev pub piece_at : Bool → ℕ → List ℕ → Piece × List ℕ
piece_at starting byte bytes =
    if byte == open_brace
    then comment_at (split (is_other_than close_brace) bytes).0 (split (is_other_than close_brace) bytes).1
    else if byte == semicolon
    then (LineComment (split (is_other_than line_feed) bytes).0, (split (is_other_than line_feed) bytes).1)
    else if byte == percent && starting
    then (EscapeLine (split (is_other_than line_feed) bytes).0, (split (is_other_than line_feed) bytes).1)
    else if byte == quote then quoted_at bytes (closing bytes)
    else if byte == open_bracket then tagged_at bytes (tag_at bytes)
    else (Plain byte, bytes)

abbrev pub or_piece : Option (Piece × List ℕ) → Piece × List ℕ → Piece × List ℕ
or_piece None other = other
or_piece (Some found) other = found

-- the first piece of a text, and what stands after it
abbrev pub first_piece : Bool → List ℕ → Option (Piece × List ℕ)
first_piece starting [] = None
first_piece starting (byte ∷ bytes) = Some (or_piece (if starting
    then blank_line (byte ∷ bytes) else None) (piece_at starting byte bytes))
