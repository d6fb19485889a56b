-- The computed first piece stands where it is found.
use Rattle.std.proofs.Common.{
  ◌≡◌,
  ℕ,
  Bool,
  true,
  false,
  List,
  [],
  ◌∷◌,
  ◌++◌,
  refl,
  sym,
  ap,
  subst,
  ◌∙◌,
  arith,
  append-nil,
}
use Rattle.std.specs.Prelude.{◌==◌, ◌&&◌, Option, Some, None}
use Rattle.std.proofs.lemmas.Bool.{cond_both, eqb-true, eqb-false, and_parts, and_from, eq-eqb, true≢false}
use Rattle.pbn_pieces.specs.Pieces.{
  is_other_than,
  Each,
  Quotes,
  HasTag,
  HasBlankLine,
  AtLineEnd,
  Tag,
  Piece,
  BlankLine,
  Tagged,
  spelled,
  MayStand,
}
use Rattle.pbn_pieces.specs.Cutting.{
  split,
  closing,
  blank_line,
  comment_at,
  quoted_at,
  tag_at,
  tagged_at,
  piece_at,
  or_piece,
  first_piece,
}
use Rattle.pbn_pieces.proofs.CutLemmas.{
  none_some,
  some_same,
  StopsAt,
  split_is,
  closing_first,
  closing_ok,
  IsClosing,
  tag_first,
  tag_is,
  blank_line_first,
  blank_line_ok,
  IsBlankLine,
}

abbrev IsFirstPiece : Bool → List ℕ → Piece × List ℕ → Type 0
IsFirstPiece starting text found = (text ≡ spelled found.0 found.1) × MayStand starting found.0 found.1

split_stops : (test : ℕ → Bool) (bytes : List ℕ) → StopsAt test (split test bytes).1
split_stops test [] = tt
split_stops test (byte ∷ bytes) =
    cond_both (test byte) (byte ∷ (split test bytes).0, (split test bytes).1) ([], byte ∷ bytes)
    (λ (s : List ℕ × List ℕ). StopsAt test s.1) (λ e. split_stops test bytes) (λ e. e)

stops_is : (end byte : ℕ) → is_other_than end byte ≡ false → byte ≡ end
stops_is end byte e = grind (arith, e)

line_stops : (rest : List ℕ) → StopsAt (is_other_than 10) rest → AtLineEnd rest
line_stops [] stops = tt
line_stops (byte ∷ rest) stops = stops_is 10 byte stops

pub no_quotes : (bytes : List ℕ) → closing bytes ≡ None → ¬ Quotes bytes
no_quotes bytes none quotes = none_some (quotes.within, quotes.rest) (sym none ∙ ap closing quotes.joined
    ∙ closing_first quotes.within quotes.rest quotes.is_within)

no_tag : (bytes : List ℕ) → tag_at bytes ≡ None → ¬ HasTag bytes
no_tag bytes none has = none_some (has.tag, has.rest) (sym none ∙ ap tag_at has.joined ∙ tag_first has.tag has.rest
    has.is_tag)

pub no_line : (bytes : List ℕ) → blank_line bytes ≡ None → ¬ HasBlankLine bytes
no_line bytes none has = none_some (BlankLine has.spaces has.return, has.rest) (sym none ∙ ap blank_line has.joined
    ∙ blank_line_first has.spaces has.return has.rest has.each)

-- where a first byte's pieces stand: no blank line does
abbrev NoLine : Bool → ℕ → List ℕ → Type 0
NoLine starting byte bytes = starting ≡ true → blank_line (byte ∷ bytes) ≡ None

comment_ok : (starting : Bool) (bytes : List ℕ) → IsFirstPiece starting (123 ∷ bytes)
    (comment_at (split (is_other_than 125) bytes).0 (split (is_other_than 125) bytes).1)
comment_ok starting bytes = by_rest (split (is_other_than 125) bytes).0 (split (is_other_than 125) bytes).1
    (split_is (is_other_than 125) bytes) (split_stops (is_other_than 125) bytes)
  where
    by_rest : (inside rest : List ℕ) → (bytes ≡ inside ++ rest) × Each (is_other_than 125) inside →
        StopsAt (is_other_than 125) rest → IsFirstPiece starting (123 ∷ bytes) (comment_at inside rest)
    by_rest inside [] whole stops = (ap (λ b. 123 ∷ b) whole.0, (whole.1, refl))
    by_rest inside (byte ∷ rest) whole stops = (
      ap (λ b. 123 ∷ b) whole.0 ∙ ap (λ b. 123 ∷ (inside ++ b ∷ rest))
          (stops_is 125 byte stops),
      whole.1,
    )

quoted_ok : (starting : Bool) (bytes : List ℕ) → NoLine starting 34 bytes → IsFirstPiece starting (34 ∷ bytes)
    (quoted_at bytes (closing bytes))
quoted_ok starting bytes line = by_found (closing bytes) (closing_ok bytes) (λ none. none)
  where
    by_found : (o : Option (List ℕ × List ℕ)) → IsClosing bytes o → (o ≡ None → closing bytes ≡ None) →
        IsFirstPiece starting (34 ∷ bytes) (quoted_at bytes o)
    by_found None is none = (
      refl,
      (
        (omega arith),
        (omega arith),
        (omega arith),
        (λ e. no_quotes bytes (none refl)),
        (λ s. ((omega arith), no_line (34 ∷ bytes) (line s))),
      ),
    )
    by_found (Some (within, rest)) is none = (ap (λ b. 34 ∷ b) is.0, is.1)

tagged_ok : (starting : Bool) (bytes : List ℕ) → IsFirstPiece starting (91 ∷ bytes) (tagged_at bytes (tag_at bytes))
tagged_ok starting bytes = by_found (tag_at bytes) (λ tag rest e. let found = tag_is bytes tag rest e in
    (ap (λ b. 91 ∷ b) found.0, found.1)) (λ none. none)
  where
    by_found : (o : Option (Tag × List ℕ)) → ((tag : Tag) (rest : List ℕ) → o ≡ Some (tag, rest) → IsFirstPiece starting
        (91 ∷ bytes) (Tagged tag, rest)) → (o ≡ None → tag_at bytes ≡ None) →
        IsFirstPiece starting (91 ∷ bytes) (tagged_at bytes o)
    by_found None is none = (ap (λ b. 91 ∷ b) (sym (append-nil bytes)), (refl, no_tag bytes (none refl)))
    by_found (Some (tag, rest)) is none = is tag rest refl

piece_ok : (starting : Bool) (byte : ℕ) (bytes : List ℕ) → NoLine starting byte bytes → IsFirstPiece starting
    (byte ∷ bytes) (piece_at starting byte bytes)
piece_ok starting byte bytes line =
    cond_both (byte == 123) _ _ (IsFirstPiece starting (byte ∷ bytes))
    (λ e. rw (eqb-true byte 123 e) (comment_ok starting bytes)) (λ comment.
    cond_both (byte == 59) _ _ (IsFirstPiece starting (byte ∷ bytes))
    (λ e. (
      λ i. eqb-true byte 59 e i ∷ (split_is (is_other_than 10) bytes).0 i,
      (
        (split_is (is_other_than 10) bytes).1,
        line_stops _ (split_stops (is_other_than 10) bytes),
      ),
    )) (λ semicolon.
    cond_both (byte == 37 && starting) _ _ (IsFirstPiece starting (byte ∷ bytes))
    (λ e. let both = and_parts (byte == 37) starting e in (
      λ i. eqb-true byte 37 both.0 i ∷ (split_is (is_other_than 10) bytes).0 i,
      (both.1, (split_is (is_other_than 10) bytes).1, line_stops _ (split_stops (is_other_than 10) bytes)),
    ))
    (λ escape.
    cond_both (byte == 34) _ _ (IsFirstPiece starting (byte ∷ bytes))
    (λ e. subst (λ b. IsFirstPiece starting (b ∷ bytes) (quoted_at bytes (closing bytes))) (sym (eqb-true byte 34 e))
    (quoted_ok starting bytes (subst (λ b. NoLine starting b bytes) (eqb-true byte 34 e) line))) (λ quote.
    cond_both (byte == 91) _ _ (IsFirstPiece starting (byte ∷ bytes))
    (λ e. subst (λ b. IsFirstPiece starting (b ∷ bytes) (tagged_at bytes (tag_at bytes))) (sym (eqb-true byte 91 e))
    (tagged_ok starting bytes)) (λ bracket. (
      refl,
      (
        eqb-false byte 123 comment,
        eqb-false byte 59 semicolon,
        eqb-false byte 91 bracket,
        (λ e. absurd (eqb-false byte 34 quote e)),
        (λ s. (
          (λ e. true≢false (sym (and_from (byte == 37) starting (eq-eqb byte 37 e) s) ∙ escape)),
          no_line (byte ∷ bytes) (line s),
        )),
      ),
    ))))))

pub first_ok : (starting : Bool) (text : List ℕ) (piece : Piece) (rest : List ℕ) → first_piece starting text ≡ Some
    (piece, rest) → (text ≡ spelled piece rest) × MayStand starting piece rest
first_ok starting [] piece rest e = absurd (none_some _ e)
first_ok false (byte ∷ bytes) piece rest e = subst (IsFirstPiece false (byte ∷ bytes)) (some_same _ (piece, rest) e)
    (piece_ok false byte bytes (λ s. absurd (true≢false (sym s))))
first_ok true (byte ∷ bytes) piece rest e =
    subst (IsFirstPiece true (byte ∷ bytes)) (some_same _ (piece, rest) e)
    (by_line (blank_line (byte ∷ bytes)) (blank_line_ok (byte ∷ bytes)) (λ none. none))
  where
    by_line : (o : Option (Piece × List ℕ)) → IsBlankLine (byte ∷ bytes) o →
        (o ≡ None → blank_line (byte ∷ bytes) ≡ None) → IsFirstPiece true (byte ∷ bytes)
        (or_piece o (piece_at true byte bytes))
    by_line None is none = piece_ok true byte bytes (λ s. none refl)
    by_line (Some (piece, rest)) is none =
        subst (λ piece. IsFirstPiece true (byte ∷ bytes) (piece, rest)) (sym is.2) (is.3, (refl, is.4))
