-- A line that has more bytes than it may have.
use Rattle.std.proofs.Common.{
  ◌≡◌,
  ◌≢◌,
  ℕ,
  ◌+◌,
  ◌-◌,
  ◌<◌,
  ◌≤◌,
  Bool,
  true,
  false,
  cond,
  List,
  [],
  ◌∷◌,
  ◌++◌,
  ◌==◌,
  ◌&&◌,
  length,
  take,
  get_or,
  nat_lt,
  map,
  refl,
  sym,
  ap,
  subst,
  ◌∙◌,
  append-nil,
  length-append,
  length-take-le,
  arith,
}
use Rattle.std.specs.Prelude.{Option, Some, None, IfSome}
use Rattle.std.specs.Io.BufRead.{ends_with_byte}
use Rattle.std.specs.Io.KnownBytes.{Consumes, IsAtEnd}
use Rattle.std.proofs.Math.Seq.{get_or-append_seam, take-append_seam}
use Rattle.std.proofs.lemmas.Bool.{ne_eqb}
use Rattle.std.proofs.lemmas.List.Elements.{All-head, All-tail, All-cons, All-nil, All-append}
use Rattle.script_lines.specs.Lines.{
  CutText,
  before_rest,
  pieces_of,
  ended_line,
  ended_lines,
  last_line,
  lines_of,
  first_line_of,
}
use Rattle.script_lines.specs.Reading.{IsUnbroken, TakesEnded, TakesLonger}
use Rattle.script_lines.proofs.LineLemmas.{before_other}

-- ---- the end of a line

last_byte : (xs : List ℕ) (y byte : ℕ) → ends_with_byte byte (xs ++ y ∷ []) ≡ (y == byte)
last_byte xs y byte =
    let many : length (xs ++ y ∷ []) ≡ length xs + 1 = length-append xs (y ∷ []) in
    ap (λ n. nat_lt 0 n && (get_or (xs ++ y ∷ []) (n - 1) 0 == byte)) many
    ∙ ap (λ n. nat_lt 0 (length xs + 1) && (get_or (xs ++ y ∷ []) n 0 == byte)) (omega arith)
    ∙ ap (λ b. nat_lt 0 (length xs + 1) && (b == byte)) (get_or-append_seam xs y [] 0)
    ∙ ap (λ b. b && (y == byte)) (is_more (length xs))
  where
    is_more : (n : ℕ) → nat_lt 0 (n + 1) ≡ true
    is_more n = grind arith

-- another byte than a CR stays
stays : (xs : List ℕ) (y : ℕ) → y ≢ 13 → ended_line (xs ++ y ∷ []) ≡ xs ++ y ∷ []
stays xs y other =
    ap (λ b. cond b (take (length (xs ++ y ∷ []) - 1) (xs ++ y ∷ [])) (xs ++ y ∷ []))
    (last_byte xs y 13 ∙ ne_eqb y 13 other)

-- a CR is left out
pub left_out : (xs : List ℕ) → xs ≡ ended_line (xs ++ 13 ∷ [])
left_out xs =
    sym (ap (λ b. cond b (take (length (xs ++ 13 ∷ []) - 1) (xs ++ 13 ∷ [])) (xs ++ 13 ∷ [])) (last_byte xs 13 13)
    ∙ ap (λ n. take n (xs ++ 13 ∷ [])) (omega (arith, length-append xs (13 ∷ [])))
    ∙ take-append_seam xs (13 ∷ []))

one_less : (b : Bool) (xs : List ℕ) → length xs ≤ length (cond b (take (length xs - 1) xs) xs) + 1
one_less true xs = omega (arith, length-take-le (length xs - 1) xs (omega arith))
one_less false xs = omega arith

-- a line has at most one byte less than its piece
pub at_most_one_less : (piece : List ℕ) → length piece ≤ length (ended_line piece) + 1
at_most_one_less piece = one_less (ends_with_byte 13 piece) piece

-- ---- the first line of a text that begins so

abbrev with_front : List ℕ → List (List ℕ) → List ℕ → CutText
with_front front [] rest = record { ended = []; rest = front ++ rest }
with_front front (piece ∷ pieces) rest = record { ended = (front ++ piece) ∷ pieces; rest = rest }

pieces_with : (front text : List ℕ) → IsUnbroken front
    → pieces_of (front ++ text) ≡ with_front front (pieces_of text).ended (pieces_of text).rest
pieces_with [] text unbroken = none (pieces_of text).ended (pieces_of text).rest
  where
    none : (ended : List (List ℕ)) (rest : List ℕ) → record { ended = ended; rest = rest } ≡ with_front [] ended rest
    none [] rest = refl
    none (piece ∷ pieces) rest = refl
pieces_with (byte ∷ front) text unbroken =
    before_other byte (pieces_of (front ++ text)) (All-head (λ b. b ≢ 10) byte front unbroken)
    ∙ ap (λ (p : CutText). before_rest byte p.ended p.rest)
    (pieces_with front text (All-tail (λ b. b ≢ 10) byte front unbroken))
    ∙ one_more (pieces_of text).ended (pieces_of text).rest
  where
    one_more : (ended : List (List ℕ)) (rest : List ℕ)
        → before_rest byte (with_front front ended rest).ended (with_front front ended rest).rest ≡ with_front
        (byte ∷ front) ended rest
    one_more [] rest = refl
    one_more (piece ∷ pieces) rest = refl

-- the first line of a text that begins with this front and goes on
abbrev first_with : List ℕ → List (List ℕ) → List ℕ → List ℕ
first_with front [] rest = front ++ rest
first_with front (piece ∷ pieces) rest = ended_line (front ++ piece)

first_is : (byte : ℕ) (front text : List ℕ) → IsUnbroken (byte ∷ front)
    → first_line_of (lines_of ((byte ∷ front) ++ text)) ≡ first_with (byte ∷ front) (pieces_of text).ended
    (pieces_of text).rest
unfolding lines_of ended_lines
first_is byte front text unbroken =
    ap (λ (p : CutText). first_line_of (map ended_line p.ended ++ last_line p.rest))
    (pieces_with (byte ∷ front) text unbroken)
    ∙ of_pieces (pieces_of text).ended (pieces_of text).rest
  where
    of_pieces : (ended : List (List ℕ)) (rest : List ℕ)
        → first_line_of (map ended_line (with_front (byte ∷ front) ended rest).ended ++ last_line
        (with_front (byte ∷ front) ended rest).rest)
        ≡ first_with (byte ∷ front) ended rest
    of_pieces [] rest = refl
    of_pieces (piece ∷ pieces) rest = refl

first_line_is : (front text : List ℕ) → 1 ≤ length front → IsUnbroken front
    → first_line_of (lines_of (front ++ text)) ≡ first_with front (pieces_of text).ended (pieces_of text).rest
first_line_is [] text some unbroken = absurd (omega arith)
first_line_is (byte ∷ front) text some unbroken = first_is byte front text unbroken

-- whatever follows, the line has as many bytes as the front, or one less
nearly : (front : List ℕ) (ended : List (List ℕ)) (rest : List ℕ) → length front ≤ length (first_with front ended rest)
    + 1
nearly front [] rest = omega (arith, length-append front rest)
nearly front (piece ∷ pieces) rest = omega (arith, length-append front piece, at_most_one_less (front ++ piece))

-- a byte other than a CR counts, whatever follows
counts : (xs : List ℕ) (y : ℕ) → y ≢ 13 → (ended : List (List ℕ)) (rest : List ℕ)
    → length xs < length (first_with (xs ++ y ∷ []) ended rest)
counts xs y other [] rest = omega (arith, length-append (xs ++ y ∷ []) rest, length-append xs (y ∷ []))
counts xs y other ([] ∷ pieces) rest =
    let same : ended_line ((xs ++ y ∷ []) ++ []) ≡ xs ++ y ∷ [] = ap ended_line (append-nil (xs ++ y ∷ []))
    ∙ stays xs y other in
    omega (arith, ap length same, length-append xs (y ∷ []))
counts xs y other ((byte ∷ piece) ∷ pieces) rest =
    omega (
      arith,
      length-append (xs ++ y ∷ []) (byte ∷ piece),
      length-append xs (y ∷ []),
      at_most_one_less
          ((xs ++ y ∷ []) ++ byte ∷ piece),
    )

pub unbroken_with : (xs : List ℕ) (y : ℕ) → IsUnbroken xs → y ≢ 10 → IsUnbroken (xs ++ y ∷ [])
unbroken_with xs y unbroken other = All-append (λ b. b ≢ 10) xs (y ∷ []) unbroken
    (All-cons (λ b. b ≢ 10) y [] other (All-nil (λ b. b ≢ 10)))

-- ---- the three ways in which a line is found too long

module _ (before reader : Option (List ℕ)) (line : List ℕ) (most all left : ℕ) (unbroken : IsUnbroken line)
    (full : length line ≡ most) where
  of_text : (piece : List ℕ) → Consumes before reader piece
      → ((rest : List ℕ) → reader ≡ Some rest → most < length (first_line_of (lines_of (piece ++ rest))))
      → IfSome before (λ text. most < length (first_line_of (lines_of text)))
  of_text piece consumed long = by before reader consumed long
    where
      by : (before reader : Option (List ℕ)) → Consumes before reader piece
          → ((rest : List ℕ) → reader ≡ Some rest → most < length (first_line_of (lines_of (piece ++ rest))))
          → IfSome before (λ text. most < length (first_line_of (lines_of text)))
      by None reader consumed long = tt
      by (Some text) None consumed long = absurd consumed
      by (Some text) (Some rest) consumed long = subst (λ t. most < length (first_line_of (lines_of t))) (sym consumed)
          (long rest refl)

  -- a byte follows that is no CR
  pub longer_at_once : (y : ℕ) → y ≢ 10 → y ≢ 13 → Consumes before reader (line ++ y ∷ []) → left + (length line + 1) ≡
      all
      → TakesLonger before reader most all left
  longer_at_once y no_feed other consumed counted =
      let piece = unbroken_with line y unbroken no_feed in
      record {
        piece = line ++ y ∷ [];
        unbroken = piece;
        consumed = consumed;
        few = omega (arith, full, length-append line (y ∷ []));
        counted = omega (arith, counted, length-append line (y ∷ []));
        longer = of_text (line ++ y ∷ []) consumed (λ rest at.
            let same = first_line_is (line ++ y ∷ []) rest (omega (arith, length-append line (y ∷ []))) piece in
            omega (arith, full, ap length same, counts line y other (pieces_of rest).ended (pieces_of rest).rest));
      }

  -- a CR follows, and then a byte that is no LF
  pub longer_after : (y : ℕ) → y ≢ 10 → Consumes before reader ((line ++ 13 ∷ []) ++ y ∷ []) → left + (length line + 2)
      ≡ all
      → TakesLonger before reader most all left
  longer_after y no_feed consumed counted =
      let front = unbroken_with line 13 unbroken (λ same. absurd (omega (arith, same))) in
      let piece = unbroken_with (line ++ 13 ∷ []) y front no_feed in
      let many : length ((line ++ 13 ∷ []) ++ y ∷ []) ≡ length line + 2 =
      omega (arith, length-append (line ++ 13 ∷ []) (y ∷ []), length-append line (13 ∷ [])) in
      record {
        piece = (line ++ 13 ∷ []) ++ y ∷ [];
        unbroken = piece;
        consumed = consumed;
        few = omega (arith, full, many);
        counted = omega (arith, counted, many);
        longer = of_text ((line ++ 13 ∷ []) ++ y ∷ []) consumed (λ rest at.
            let same = first_line_is ((line ++ 13 ∷ []) ++ y ∷ []) rest (omega (arith, many)) piece in
            omega (
              arith,
              full,
              many,
              ap length same,
              nearly ((line ++ 13 ∷ []) ++ y ∷ []) (pieces_of rest).ended
                  (pieces_of rest).rest,
            ));
      }

  -- a CR follows, and then nothing
  pub longer_at_end : Consumes before reader (line ++ 13 ∷ []) → IsAtEnd reader → left + (length line + 1) ≡ all
      → TakesLonger before reader most all left
  longer_at_end consumed at_end counted =
      let piece = unbroken_with line 13 unbroken (λ same. absurd (omega (arith, same))) in
      record {
        piece = line ++ 13 ∷ [];
        unbroken = piece;
        consumed = consumed;
        few = omega (arith, full, length-append line (13 ∷ []));
        counted = omega (arith, counted, length-append line (13 ∷ []));
        longer = of_text (line ++ 13 ∷ []) consumed (λ rest at.
            let none : rest ≡ [] = subst IsAtEnd at at_end in
            let same = first_line_is (line ++ 13 ∷ []) rest (omega (arith, length-append line (13 ∷ []))) piece in
            let whole : first_line_of (lines_of ((line ++ 13 ∷ []) ++ rest)) ≡ (line ++ 13 ∷ []) ++ [] =
            same ∙ ap (λ r. first_with (line ++ 13 ∷ []) (pieces_of r).ended (pieces_of r).rest) none in
            omega (
              arith,
              full,
              ap length whole,
              ap length (append-nil (line ++ 13 ∷ [])),
              length-append line
                  (13 ∷ []),
            ));
      }

  -- a CR and an LF follow
  pub ends_there : Consumes before reader ((line ++ 13 ∷ []) ++ 10 ∷ []) → left + (length line + 2) ≡ all
      → TakesEnded before reader line all left
  ends_there consumed counted = record {
    piece = line ++ 13 ∷ [];
    unbroken = unbroken_with line 13 unbroken (λ same. absurd (omega (arith, same)));
    consumed = consumed;
    shortened = left_out line;
    counted = omega (arith, counted, length-append line (13 ∷ []));
  }
