-- Pieces that may stand where they do, whatever follows them.
use Rattle.std.proofs.Common.{◌≡◌, ◌≢◌, ℕ, Bool, true, false, List, [], ◌∷◌, ◌++◌, refl, sym, ap, ◌∙◌, arith}
use Rattle.std.specs.Prelude.{◌==◌, ◌&&◌, not}
use Rattle.std.proofs.lemmas.Bool.{true≢false, and_parts, eq-eqb}
use Rattle.pbn_pieces.specs.Pieces.{is_blank, is_space, Each, IsWithinQuotes, IsTag, HasBlankLine}
use Rattle.pbn_pieces.specs.Pieces.{Piece, Comment, OpenComment, LineComment, EscapeLine, BlankLine, Quoted, Tagged, Broken, Plain}
use Rattle.pbn_pieces.specs.Pieces.{spelled, MayStand, starts_line, Joins}

-- a byte that begins nothing: no comment, no tag and no quoted text
abbrev pub is_safe_byte : ℕ → Bool
is_safe_byte byte = not (byte == 123) && (not (byte == 59) && (not (byte == 91) && not (byte == 34)))

-- at a line's start it begins no escape line and no blank line either
abbrev pub is_safe : Bool → ℕ → Bool
is_safe true byte = is_safe_byte byte && (not (byte == 37) && not (is_blank byte))
is_safe false byte = is_safe_byte byte

-- the piece may stand there, whatever follows
abbrev pub Safe : Bool → Piece → Type 0
Safe starting (Comment inside) = ⊥
Safe starting (OpenComment inside) = ⊥
Safe starting (LineComment inside) = ⊥
Safe starting (EscapeLine inside) = ⊥
Safe starting (BlankLine spaces return) = (starting ≡ true) × Each is_space spaces
Safe starting (Quoted within) = IsWithinQuotes within
Safe starting (Tagged tag) = IsTag tag
Safe starting (Broken after) = ⊥
Safe starting (Plain byte) = is_safe starting byte ≡ true

-- so may each of these, one after another
abbrev pub AllSafe : Bool → List Piece → Type 0
AllSafe starting [] = Unit {0}
AllSafe starting (piece ∷ pieces) = Safe starting piece × AllSafe (starts_line piece) pieces

-- whether a line starts after them
abbrev pub start_after : Bool → List Piece → Bool
start_after starting [] = starting
start_after starting (piece ∷ pieces) = start_after (starts_line piece) pieces

-- the text of pieces, and a text after them
abbrev pub spell : List Piece → List ℕ → List ℕ
spell [] rest = rest
spell (piece ∷ pieces) rest = spelled piece (spell pieces rest)

-- what differs by the test is another number
other : (a b : ℕ) → not (a == b) ≡ true → a ≢ b
other a b differs same = true≢false (sym differs ∙ ap not (eq-eqb a b same))

no_line : (byte : ℕ) (bytes : List ℕ) → not (is_blank byte) ≡ true → ¬ HasBlankLine (byte ∷ bytes)
no_line byte bytes plain line = by_spaces line.spaces line.return line.rest line.joined line.each
  where
    by_spaces : (spaces : List ℕ) (return : Bool) (rest : List ℕ) →
        byte ∷ bytes ≡ spelled (BlankLine spaces return) rest → Each is_space spaces → ⊥
    by_spaces [] true rest joined each = other_blank 13 refl (first_of joined)
      where
        first_of : byte ∷ bytes ≡ 13 ∷ 10 ∷ rest → byte ≡ 13
        first_of same = cc

        other_blank : (blank : ℕ) → is_blank blank ≡ true → byte ≡ blank → ⊥
        other_blank blank is same = true≢false (sym plain ∙ ap not (ap is_blank same ∙ is))
    by_spaces [] false rest joined each = other_blank 10 refl (first_of joined)
      where
        first_of : byte ∷ bytes ≡ 10 ∷ rest → byte ≡ 10
        first_of same = cc

        other_blank : (blank : ℕ) → is_blank blank ≡ true → byte ≡ blank → ⊥
        other_blank blank is same = true≢false (sym plain ∙ ap not (ap is_blank same ∙ is))
    by_spaces (space ∷ spaces) return rest joined each =
        let same : byte ≡ space = first_of _ joined in
        true≢false (sym plain ∙ ap not (ap is_blank same ∙ blank_of space each.0))
      where
        first_of : (more : List ℕ) → byte ∷ bytes ≡ space ∷ more → byte ≡ space
        first_of more same = cc

        blank_of : (b : ℕ) → is_space b ≡ true → is_blank b ≡ true
        blank_of b is = grind (arith, is)

pub plain_stands : (starting : Bool) (byte : ℕ) (rest : List ℕ) → is_safe starting byte ≡ true →
    MayStand starting (Plain byte) rest
plain_stands true byte rest safe =
    let both = and_parts (is_safe_byte byte) _ safe in
    let a = and_parts (not (byte == 123)) _ both.0 in
    let b = and_parts (not (byte == 59)) _ a.1 in
    let c = and_parts (not (byte == 91)) _ b.1 in
    let d = and_parts (not (byte == 37)) _ both.1 in (
      other byte 123 a.0,
      other byte 59 b.0,
      other byte 91 c.0,
      (λ e. absurd (other byte 34 c.1 e)),
      (λ _. (other byte 37 d.0, no_line byte rest d.1)),
    )
plain_stands false byte rest safe =
    let a = and_parts (not (byte == 123)) _ safe in
    let b = and_parts (not (byte == 59)) _ a.1 in
    let c = and_parts (not (byte == 91)) _ b.1 in (
      other byte 123 a.0,
      other byte 59 b.0,
      other byte 91 c.0,
      (λ e. absurd (other byte 34 c.1 e)),
      (λ e. absurd (true≢false (sym e))),
    )

stands : (starting : Bool) (piece : Piece) (rest : List ℕ) → Safe starting piece → MayStand starting piece rest
stands starting (Comment inside) rest safe = absurd safe
stands starting (OpenComment inside) rest safe = absurd safe
stands starting (LineComment inside) rest safe = absurd safe
stands starting (EscapeLine inside) rest safe = absurd safe
stands starting (BlankLine spaces return) rest safe = safe
stands starting (Quoted within) rest safe = safe
stands starting (Tagged tag) rest safe = safe
stands starting (Broken after) rest safe = absurd safe
stands starting (Plain byte) rest safe = plain_stands starting byte rest safe

-- such pieces are those of their text
pub safe_joins : (starting : Bool) (pieces : List Piece) → AllSafe starting pieces →
    Joins starting pieces (spell pieces [])
safe_joins starting [] safe = refl
safe_joins starting (piece ∷ pieces) safe =
    (spell pieces [], refl, stands starting piece (spell pieces []) safe.0, safe_joins (starts_line piece) pieces safe.1)

pub start_after-append : (starting : Bool) (some more : List Piece) →
    start_after starting (some ++ more) ≡ start_after (start_after starting some) more
start_after-append starting [] more = refl
start_after-append starting (piece ∷ some) more = start_after-append (starts_line piece) some more

pub safe-append : (starting : Bool) (some more : List Piece) → AllSafe starting some →
    AllSafe (start_after starting some) more → AllSafe starting (some ++ more)
safe-append starting [] more safe others = others
safe-append starting (piece ∷ some) more safe others = (safe.0, safe-append (starts_line piece) some more safe.1 others)

pub spell-append : (some more : List Piece) (rest : List ℕ) → spell (some ++ more) rest ≡ spell some (spell more rest)
spell-append [] more rest = refl
spell-append (piece ∷ some) more rest = ap (spelled piece) (spell-append some more rest)
