-- How the pieces that a reader tells of are those of the text.
use Rattle.std.proofs.lemmas.List.{take_all}
use Rattle.std.proofs.Common.{
  suc,
  ◌≤◌,
  ◌-◌,
  take,
  drop,
  get_or,
  length,
  subst,
  ◌≡◌,
  ◌≢◌,
  ℕ,
  Bool,
  true,
  false,
  List,
  [],
  ◌∷◌,
  refl,
  sym,
  ap,
  ◌∙◌,
  arith,
}
use Rattle.std.specs.Prelude.{◌==◌, ◌&&◌, Option, Some, None, MatchOption, IfSome, IfNone}
use Rattle.std.proofs.lemmas.Bool.{ne_eqb}
use Rattle.pbn_pieces.specs.Pieces.{
  Piece,
  LineComment,
  EscapeLine,
  Plain,
  is_other_than,
  is_space,
  BlankLine,
  starts_line,
}
use Rattle.pbn_pieces.specs.Cutting.{
  split,
  after_byte,
  closing,
  line_end,
  blank_before,
  blank_line,
  comment_at,
  quoted_at,
  tag_at,
  tagged_at,
  piece_at,
  or_piece,
  first_piece,
}
use Rattle.pbn_pieces.specs.Told.{IsSkipped, Shows, CutsAt, Cuts}
use Rattle.pbn_pieces.specs.declared.piece.NextPiece.{NextPiece}
use Rattle.pbn_pieces.specs.declared.piece.NextPiece.TheVariants as found
use Rattle.pbn_pieces.proofs.CutLemmas.{none_some, starts_blank}
use Rattle.pbn_pieces.proofs.FirstPieceLemmas.{first_ok}

pub end_feed : (text rest : List ℕ) → after_byte 10 text ≡ Some rest → line_end text ≡ Some (false, rest)
end_feed [] rest e = absurd (none_some rest e)
end_feed (byte ∷ []) rest e = grind (arith, e)
end_feed (byte ∷ next ∷ bytes) rest e = grind (arith, e)

pub end_return : (text after rest : List ℕ) → after_byte 13 text ≡ Some after → after_byte 10 after ≡ Some rest →
    line_end text ≡ Some (true, rest)
end_return [] after rest e f = absurd (none_some after e)
end_return (byte ∷ []) after rest e f = absurd (grind (arith, e, f))
end_return (byte ∷ next ∷ bytes) after rest e f = grind (arith, e, f)

pub no_end : (text : List ℕ) → after_byte 10 text ≡ None → after_byte 13 text ≡ None → line_end text ≡ None
no_end [] e f = refl
no_end (byte ∷ []) e f = grind (arith, e)
no_end (byte ∷ next ∷ bytes) e f = grind (arith, e, f)

pub no_end_return : (text after : List ℕ) → after_byte 10 text ≡ None → after_byte 13 text ≡ Some after →
    after_byte 10 after ≡ None → line_end text ≡ None
no_end_return [] after e f g = refl
no_end_return (byte ∷ []) after e f g = grind (arith, e)
no_end_return (byte ∷ next ∷ bytes) after e f g = grind (arith, e, f, g)

pub blank_of : (text spaces more rest : List ℕ) (return : Bool) → (spaces, more) ≡ split is_space text →
    line_end more ≡ Some (return, rest) → blank_line text ≡ Some (BlankLine spaces return, rest)
blank_of text spaces more rest return s e = ap (λ (s : List ℕ × List ℕ). blank_before s.0 (line_end s.1)) (sym s)
    ∙ ap (blank_before spaces) e

pub no_blank_of : (text spaces more : List ℕ) → (spaces, more) ≡ split is_space text → line_end more ≡ None →
    blank_line text ≡ None
no_blank_of text spaces more s e = ap (λ (s : List ℕ × List ℕ). blank_before s.0 (line_end s.1)) (sym s)
    ∙ ap (blank_before spaces) e

module _ {A : Type 0} where
  -- what is known of an answer, read where there is one
  pub some_of : (found : Option A) (N : Type 0) (P Q : A → Type 0) → ((x : A) → P x → Q x) → MatchOption found N P →
      IfSome found Q
  some_of None N P Q f cases = tt
  some_of (Some x) N P Q f cases = f x cases

  -- and where there is none
  pub none_of : (found : Option A) (N M : Type 0) (P : A → Type 0) → (N → M) → MatchOption found N P → IfNone found M
  none_of None N M P f cases = f cases
  none_of (Some x) N M P f cases = tt

-- the computed first piece may stand there
first_cuts : (starting : Bool) (text : List ℕ) (seen : NextPiece) (rest : List ℕ) (piece : Piece) →
    first_piece starting text ≡ Some (piece, rest) → Shows seen piece → Cuts starting text seen rest
first_cuts starting text seen rest piece e shows =
    let first = first_ok starting text piece rest e in
    record { piece = piece; joined = first.0; stands = first.1; shown = shows }

pub cuts_blank : (starting : Bool) (text rest spaces : List ℕ) (return : Bool) → starting ≡ true →
    blank_line text ≡ Some (BlankLine spaces return, rest) →
    Cuts starting text found.BlankLine rest
cuts_blank starting text rest spaces return s e =
    first_cuts starting text found.BlankLine rest (BlankLine spaces return)
    (ap (λ b. first_piece b text) s ∙ starts_blank text (BlankLine spaces return) rest e)
    (spaces, return, refl)

pub cuts_from : (starting : Bool) (byte : ℕ) (bytes : List ℕ) (seen : NextPiece) (rest : List ℕ) →
    (starting ≡ true → blank_line (byte ∷ bytes) ≡ None) →
    CutsAt starting byte bytes seen rest → Cuts starting (byte ∷ bytes) seen rest
cuts_from false byte bytes seen rest none cuts =
    first_cuts false (byte ∷ bytes) seen rest cuts.piece (ap (λ (found : Piece × List ℕ). Some found) cuts.first)
    cuts.shown
cuts_from true byte bytes seen rest none cuts =
    first_cuts true (byte ∷ bytes) seen rest cuts.piece (λ i. Some (or_piece (none refl i) (cuts.first i))) cuts.shown

-- the same of a text that is not empty
pub cuts_front : (starting : Bool) (text : List ℕ) (seen : NextPiece) (rest : List ℕ) → 1 ≤ length text →
    (starting ≡ true → blank_line text ≡ None) →
    CutsAt starting (get_or text 0 0) (take (length text - 1) (drop 1 text)) seen rest → Cuts starting text seen rest
cuts_front starting [] seen rest some none cuts = absurd (omega (arith, some))
cuts_front starting (byte ∷ bytes) seen rest some none cuts =
    cuts_from starting byte bytes seen rest none
    (subst (λ after. CutsAt starting byte after seen rest) (take_all (suc (length bytes) - 1) bytes (omega arith)) cuts)

-- the pieces by their first bytes
comment_told : (inside rest : List ℕ) → IsSkipped (comment_at inside rest).0 ×
    (starts_line (comment_at inside rest).0 ≡ false)
comment_told inside [] = (tt, refl)
comment_told inside (byte ∷ rest) = (tt, refl)

pub cuts_comment : (starting : Bool) (first : ℕ) (after rest : List ℕ) → first ≡ 123 →
    rest ≡ (comment_at (split (is_other_than 125) after).0 (split (is_other_than 125) after).1).1 →
    CutsAt starting first after (found.Skipped false) rest
cuts_comment starting first after rest e r =
    let inside = (split (is_other_than 125) after).0 in
    let more = (split (is_other_than 125) after).1 in
    record {
      piece = (comment_at inside more).0;
      first = ap (λ b. piece_at starting b after) e ∙ ap (λ (rest : List ℕ). ((comment_at inside more).0, rest))
          (sym r);
      shown = comment_told inside more;
    }

pub cuts_line : (starting : Bool) (first : ℕ) (after rest : List ℕ) → first ≡ 59 →
    rest ≡ (split (is_other_than 10) after).1 → CutsAt starting first after (found.Skipped false) rest
cuts_line starting first after rest e r = record {
  piece = LineComment (split (is_other_than 10) after).0;
  first = ap (λ b. piece_at starting b after) e
      ∙ ap (λ (rest : List ℕ). (LineComment (split (is_other_than 10) after).0, rest)) (sym r);
  shown = (tt, refl);
}

pub cuts_escape : (starting : Bool) (first : ℕ) (after rest : List ℕ) → first ≡ 37 → starting ≡ true →
    rest ≡ (split (is_other_than 10) after).1 → CutsAt starting first after (found.Skipped false) rest
cuts_escape starting first after rest e s r = record {
  piece = EscapeLine (split (is_other_than 10) after).0;
  first = (λ i. piece_at (s i) (e i) after) ∙ ap (λ (rest : List ℕ). (
    EscapeLine (split (is_other_than 10) after).0,
    rest,
  )) (sym r);
  shown = (tt, refl);
}

quoted_told : (after : List ℕ) (o : Option (List ℕ × List ℕ)) → IsSkipped (quoted_at after o).0 ×
    (starts_line (quoted_at after o).0 ≡ false)
quoted_told after None = (tt, refl)
quoted_told after (Some (within, rest)) = (tt, refl)

pub cuts_quoted : (starting : Bool) (first : ℕ) (after rest : List ℕ) → first ≡ 34 →
    rest ≡ (quoted_at after (closing after)).1 → CutsAt starting first after (found.Skipped false) rest
cuts_quoted starting first after rest e r = record {
  piece = (quoted_at after (closing after)).0;
  first = ap (λ b. piece_at starting b after) e ∙ ap (λ (rest : List ℕ). ((quoted_at after (closing after)).0, rest))
      (sym r);
  shown = quoted_told after (closing after);
}

pub cuts_tag : (starting : Bool) (first : ℕ) (after : List ℕ) (seen : NextPiece) (rest : List ℕ) → first ≡ 91 →
    ((piece : Piece) × (tagged_at after (tag_at after) ≡ (piece, rest)) × Shows seen piece) → CutsAt starting first
    after seen rest
cuts_tag starting first after seen rest e told = record {
  piece = told.0;
  first = ap (λ b. piece_at starting b after) e
      ∙ told.1;
  shown = told.2;
}

pub cuts_plain : (starting : Bool) (first : ℕ) (after : List ℕ) → first ≢ 123 → first ≢ 59 → (first == 37 && starting) ≡
    false → first ≢ 34 → first ≢ 91 →
    CutsAt starting first after (found.Skipped (first == 10)) after
cuts_plain starting first after a b p q t = record {
  piece = Plain first;
  first = rw (ne_eqb first 123 a, ne_eqb first 59 b, p, ne_eqb first 34 q, ne_eqb first 91 t) refl;
  shown = (tt, refl);
}
