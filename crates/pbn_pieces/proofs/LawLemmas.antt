-- What begins a text is its first piece, where it may stand there.
use Rattle.std.proofs.Common.{ℕ, Bool, true, false, List, [], ◌∷◌, ◌++◌, refl, sym, ap, subst, ◌∙◌, arith, append-nil}
use Rattle.std.proofs.lemmas.Bool.{true≢false}
use Rattle.pbn_pieces.specs.Pieces.{
  is_other_than,
  Each,
  IsWithinQuotes,
  Quotes,
  Tag,
  tag_text,
  IsTag,
  HasTag,
  AtLineEnd,
  Piece,
  Comment,
  OpenComment,
  LineComment,
  EscapeLine,
  Quoted,
  Tagged,
  Broken,
  Plain,
  spelled,
  MayStand,
  starts_line,
  Joins,
  Begins,
}
use Rattle.pbn_pieces.specs.Cutting.{first_piece}
use Rattle.pbn_pieces.proofs.CutLemmas.{none_some, some_same, first_is, no_blank_line}
use Rattle.pbn_pieces.proofs.FirstPieceLemmas.{no_line}

pub begins : (starting : Bool) (piece : Piece) (rest : List ℕ) (pieces : List Piece) → MayStand starting piece rest →
    Joins starting pieces (spelled piece rest) → Begins pieces piece rest
begins starting piece rest [] stands joins =
    absurd (none_some (piece, rest) (ap (first_piece starting) (sym joins) ∙ first_is starting piece rest stands))
begins starting piece rest (other ∷ more) stands (after, e, others, joins) =
    let same = some_same (other, after) (piece, rest)
    (sym (first_is starting other after others) ∙ ap (first_piece starting) (sym e) ∙ first_is starting piece rest
    stands) in (
      more,
      ap (λ (s : Piece × List ℕ). s.0 ∷ more) same,
      subst (λ (s : Piece × List ℕ). Joins (starts_line s.0) more
          s.1) same joins,
    )

pub comment : (starting : Bool) (inside rest : List ℕ) (pieces : List Piece) → Each (is_other_than 125) inside →
    Joins starting pieces (123 ∷ (inside ++ 125 ∷ rest)) → Begins pieces (Comment inside) rest
comment starting inside rest pieces each = begins starting (Comment inside) rest pieces each

pub open_comment : (starting : Bool) (inside : List ℕ) (pieces : List Piece) → Each (is_other_than 125) inside →
    Joins starting pieces (123 ∷ inside) → Begins pieces (OpenComment inside) []
open_comment starting inside pieces each joins =
    begins starting (OpenComment inside) [] pieces (each, refl)
    (subst (λ bytes. Joins starting pieces (123 ∷ bytes)) (sym (append-nil inside)) joins)

pub line_comment : (starting : Bool) (inside rest : List ℕ) (pieces : List Piece) → Each (is_other_than 10) inside →
    AtLineEnd rest →
    Joins starting pieces (59 ∷ (inside ++ rest)) → Begins pieces (LineComment inside) rest
line_comment starting inside rest pieces each ends = begins starting (LineComment inside) rest pieces (each, ends)

pub escape_line : (inside rest : List ℕ) (pieces : List Piece) → Each (is_other_than 10) inside → AtLineEnd rest →
    Joins true pieces (37 ∷ (inside ++ rest)) → Begins pieces (EscapeLine inside) rest
escape_line inside rest pieces each ends = begins true (EscapeLine inside) rest pieces (refl, each, ends)

pub whole_tag : (starting : Bool) (found : Tag) (rest : List ℕ) (pieces : List Piece) → IsTag found →
    Joins starting pieces (91 ∷ tag_text found rest) → Begins pieces (Tagged found) rest
whole_tag starting found rest pieces is = begins starting (Tagged found) rest pieces is

pub broken : (starting : Bool) (after : List ℕ) (pieces : List Piece) → (¬ HasTag after) →
    Joins starting pieces (91 ∷ after) → Begins pieces (Broken after) []
broken starting after pieces none joins =
    begins starting (Broken after) [] pieces (refl, none)
    (subst (λ bytes. Joins starting pieces (91 ∷ bytes)) (sym (append-nil after)) joins)

pub percent_within : (rest : List ℕ) (pieces : List Piece) → Joins false pieces (37 ∷ rest) → Begins pieces (Plain 37)
    rest
percent_within rest pieces =
    begins false (Plain 37) rest pieces
    ((omega arith), (omega arith), (omega arith), (λ e. absurd (omega (arith, e))), (λ e. absurd (true≢false (sym e))))

pub quoted : (starting : Bool) (within rest : List ℕ) (pieces : List Piece) → IsWithinQuotes within →
    Joins starting pieces (34 ∷ (within ++ 34 ∷ rest)) → Begins pieces (Quoted within) rest
quoted starting within rest pieces is = begins starting (Quoted within) rest pieces is

pub unclosed_quote : (starting : Bool) (rest : List ℕ) (pieces : List Piece) → (¬ Quotes rest) → Joins starting pieces
    (34 ∷ rest) → Begins pieces (Plain 34) rest
unclosed_quote starting rest pieces none =
    begins starting (Plain 34) rest pieces (
      (omega arith),
      (omega arith),
      (omega arith),
      (λ e. none),
      (λ e. ((omega arith), no_line (34 ∷ rest) (no_blank_line 34 rest refl))),
    )
