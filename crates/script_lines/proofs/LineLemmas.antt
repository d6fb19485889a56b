-- The lines of a text that goes on.
use Rattle.std.proofs.Common.{
  ◌≡◌,
  ◌≢◌,
  inl,
  inr,
  ℕ,
  Bool,
  List,
  [],
  ◌∷◌,
  ◌++◌,
  All,
  map,
  length,
  refl,
  sym,
  ap,
  subst,
  ◌∙◌,
  append_assoc,
  append-nil,
  arith,
}
use Rattle.std.specs.Prelude.{if◌then◌else◌, flat_map}
use Rattle.std.proofs.lemmas.Bool.{ne_eqb, cases_eq, eq-eqb}
use Rattle.std.proofs.lemmas.List.{map-append}
use Rattle.std.proofs.lemmas.List.Elements.{All-head, All-tail, All-cons, All-nil}
use Rattle.script_lines.specs.Lines.{
  CutText,
  before_rest,
  before,
  pieces_of,
  ended_line,
  ended_lines,
  last_line,
  lines_of,
}
use Rattle.script_lines.specs.Reading.{IsUnbroken}

abbrev ends_no_line : ℕ → Type 0
ends_no_line byte = byte ≢ 10

-- a byte that ends no line, before pieces
pub before_other : (byte : ℕ) (following : CutText) → byte ≢ 10 → before byte following ≡ before_rest byte
    following.ended following.rest
before_other byte following other =
    ap (λ (b : Bool). if b then record { ended = [] ∷ following.ended; rest = following.rest } else before_rest byte
    following.ended following.rest) (ne_eqb byte 10 other)

before_feed : (byte : ℕ) (following : CutText) → byte ≡ 10 → before byte following ≡
    record { ended = [] ∷ following.ended; rest = following.rest }
before_feed byte following feed =
    ap (λ (b : Bool). if b then record { ended = [] ∷ following.ended; rest = following.rest } else before_rest byte
    following.ended following.rest) (eq-eqb byte 10 feed)

-- what stands before an LF, and then a text
piece_first : (piece text : List ℕ) → IsUnbroken piece → pieces_of (piece ++ 10 ∷ text) ≡
    record { ended = piece ∷ (pieces_of text).ended; rest = (pieces_of text).rest }
piece_first [] text unbroken = refl
piece_first (byte ∷ piece) text unbroken =
    ap (before byte) (piece_first piece text (All-tail ends_no_line byte piece unbroken)) ∙ before_other byte _
    (All-head ends_no_line byte piece unbroken)

-- what no LF ends
unended : (piece : List ℕ) → IsUnbroken piece → pieces_of piece ≡ record { ended = []; rest = piece }
unended [] unbroken = refl
unended (byte ∷ piece) unbroken =
    ap (before byte) (unended piece (All-tail ends_no_line byte piece unbroken)) ∙ before_other byte _
    (All-head ends_no_line byte piece unbroken)

-- pieces after which nothing is left over, and then others
abbrev joined : CutText → CutText → CutText
joined first second = record { ended = first.ended ++ second.ended; rest = second.rest }

-- a byte before pieces that leave nothing over leaves nothing over, and only if they do
before_whole : (byte : ℕ) (first second : CutText) → (before byte first).rest ≡ [] → (first.rest ≡ []) ×
    (before byte (joined first second) ≡ joined (before byte first) second)
before_whole byte first second whole =
    elim (cases_eq byte 10) [
      | inl feed ↦ (
        sym (ap (λ (p : CutText). p.rest) (before_feed byte first feed)) ∙ whole,
        before_feed byte (joined first second) feed ∙ ap (λ p. joined p second) (sym (before_feed byte first feed)),
      )
      | inr other ↦
          let inner = by_lines first.ended first.rest
          (sym (ap (λ (p : CutText). p.rest) (before_other byte first other)) ∙ whole) in (
            inner.0,
            before_other byte (joined first second) other ∙ inner.1 ∙ ap (λ p. joined p second)
                (sym (before_other byte first other)),
          )
    ]
  where
    by_lines : (ended : List (List ℕ)) (rest : List ℕ) → (before_rest byte ended rest).rest ≡ [] →
        (rest ≡ []) × (before_rest byte (ended ++ second.ended) second.rest ≡ joined (before_rest byte ended rest)
        second)
    by_lines [] rest none = absurd (omega (arith, ap length none))
    by_lines (line ∷ lines) rest none = (none, refl)

-- the pieces of a text that ends with an LF, and then of another
pub whole_first : (text later : List ℕ) → (pieces_of text).rest ≡ [] → pieces_of (text ++ later) ≡ joined
    (pieces_of text) (pieces_of later)
whole_first [] later whole = refl
whole_first (byte ∷ text) later whole =
    let step = before_whole byte (pieces_of text) (pieces_of later) whole in
    ap (before byte) (whole_first text later step.0) ∙ step.1

-- one line more that an LF ends
pub piece_more : (text piece : List ℕ) → (pieces_of text).rest ≡ [] → IsUnbroken piece →
    pieces_of (text ++ (piece ++ 10 ∷ [])) ≡ record { ended = (pieces_of text).ended ++ piece ∷ []; rest = [] }
piece_more text piece whole unbroken =
    whole_first text (piece ++ 10 ∷ []) whole ∙ ap (joined (pieces_of text)) (piece_first piece [] unbroken)

pub ended_more : (text piece : List ℕ) → (pieces_of text).rest ≡ [] → IsUnbroken piece →
    ended_lines (text ++ (piece ++ 10 ∷ [])) ≡ ended_lines text ++ ended_line piece ∷ []
unfolding ended_lines
ended_more text piece whole unbroken =
    ap (λ (p : CutText). map ended_line p.ended) (piece_more text piece whole unbroken)
    ∙ map-append ended_line (pieces_of text).ended (piece ∷ [])

-- bytes that no LF ends
pub rest_more : (text piece : List ℕ) → (pieces_of text).rest ≡ [] → IsUnbroken piece →
    pieces_of (text ++ piece) ≡ record { ended = (pieces_of text).ended ++ []; rest = piece }
rest_more text piece whole unbroken = whole_first text piece whole ∙ ap (joined (pieces_of text))
    (unended piece unbroken)

pub ended_same : (text piece : List ℕ) → (pieces_of text).rest ≡ [] → IsUnbroken piece → ended_lines (text ++ piece) ≡
    ended_lines text
unfolding ended_lines
ended_same text piece whole unbroken =
    ap (λ (p : CutText). map ended_line p.ended) (rest_more text piece whole unbroken) ∙ ap (map ended_line)
    (append-nil (pieces_of text).ended)

-- all lines of a text that ends with an LF are ended
pub all_ended : (text : List ℕ) → (pieces_of text).rest ≡ [] → lines_of text ≡ ended_lines text
unfolding lines_of
all_ended text whole = ap (λ rest. ended_lines text ++ last_line rest) whole ∙ append-nil (ended_lines text)

-- all lines of a text whose last one no LF ends
pub lines_rest : (text piece : List ℕ) → (pieces_of text).rest ≡ [] → IsUnbroken piece → lines_of (text ++ piece) ≡
    ended_lines text ++ last_line piece
unfolding lines_of
lines_rest text piece whole unbroken =
    λ i. ended_same text piece whole unbroken i ++ last_line ((rest_more text piece whole unbroken i).rest)

-- the lines of a text that goes on after an LF
pub lines_more : (text later : List ℕ) → (pieces_of text).rest ≡ [] → lines_of (text ++ later) ≡ ended_lines text
    ++ lines_of later
unfolding lines_of ended_lines
lines_more text later whole =
    (λ i. map ended_line (whole_first text later whole i).ended ++ last_line (whole_first text later whole i).rest)
    ∙ (λ i. map-append ended_line (pieces_of text).ended (pieces_of later).ended i ++ last_line (pieces_of later).rest)
    ∙ append_assoc (map ended_line (pieces_of text).ended) (map ended_line (pieces_of later).ended)
    (last_line (pieces_of later).rest)

-- a text is its pieces, each followed by an LF, and what is left over
pub joins : (text : List ℕ) → text ≡ flat_map (λ piece. piece ++ 10 ∷ []) (pieces_of text).ended
    ++ (pieces_of text).rest
joins [] = refl
joins (byte ∷ text) = ap (λ bytes. byte ∷ bytes) (joins text) ∙ elim (cases_eq byte 10) [
  | inl feed ↦ (λ i. feed i ∷ (flat_map (λ piece. piece ++ 10 ∷ []) (pieces_of text).ended ++ (pieces_of text).rest))
      ∙ ap text_of (sym (before_feed byte (pieces_of text) feed))
  | inr other ↦ by_lines byte (pieces_of text).ended (pieces_of text).rest ∙ ap text_of
      (sym (before_other byte (pieces_of text) other))
]
  where
    text_of : CutText → List ℕ
    text_of p = flat_map (λ piece. piece ++ 10 ∷ []) p.ended ++ p.rest

    by_lines : (byte : ℕ) (ended : List (List ℕ)) (rest : List ℕ) → byte ∷ text_of
        (record { ended = ended; rest = rest }) ≡ text_of (before_rest byte ended rest)
    by_lines byte [] rest = refl
    by_lines byte (line ∷ lines) rest = refl

-- no LF stands within a piece or in what is left over
pub pieces_unbroken : (text : List ℕ) → All IsUnbroken (pieces_of text).ended × IsUnbroken (pieces_of text).rest
pieces_unbroken [] = (All-nil IsUnbroken, All-nil ends_no_line)
pieces_unbroken (byte ∷ text) = elim (cases_eq byte 10) [
  | inl feed ↦ subst AreUnbroken (sym (before_feed byte (pieces_of text) feed))
      (All-cons IsUnbroken [] _ (All-nil ends_no_line) (pieces_unbroken text).0, (pieces_unbroken text).1)
  | inr other ↦ subst AreUnbroken (sym (before_other byte (pieces_of text) other)) (by_lines byte (pieces_of text).ended
      (pieces_of text).rest other (pieces_unbroken text))
]
  where
    AreUnbroken : CutText → Type 0
    AreUnbroken p = All IsUnbroken p.ended × IsUnbroken p.rest

    by_lines : (byte : ℕ) (ended : List (List ℕ)) (rest : List ℕ) → byte ≢ 10 → All IsUnbroken ended × IsUnbroken rest →
        AreUnbroken (before_rest byte ended rest)
    by_lines byte [] rest other unbroken = (All-nil IsUnbroken, All-cons ends_no_line byte rest other unbroken.1)
    by_lines byte (line ∷ lines) rest other unbroken = (
      All-cons IsUnbroken (byte ∷ line) lines (All-cons ends_no_line byte line other
          (All-head IsUnbroken line lines unbroken.0)) (All-tail IsUnbroken line lines unbroken.0),
      unbroken.1,
    )
