-- What is known while a text is walked through, piece after piece: each piece has bytes, and what is left gets shorter.
use Rattle.std.proofs.Common.{
  ◌≡◌,
  ℕ,
  ◌<◌,
  Bool,
  true,
  false,
  List,
  [],
  ◌∷◌,
  ◌++◌,
  length,
  refl,
  sym,
  ap,
  ◌∙◌,
  arith,
  append-nil,
  append_assoc,
  length-append,
}
use Rattle.pbn_pieces.specs.Pieces.{
  size,
  Tag,
  Piece,
  Comment,
  OpenComment,
  LineComment,
  EscapeLine,
  BlankLine,
  Quoted,
  Tagged,
  Broken,
  Plain,
  spelled,
  tag_text,
}
use Rattle.pbn_pieces.specs.Told.{Cuts, NoneCloses}
use Rattle.pbn_pieces.specs.declared.piece.NextPiece.{NextPiece}

-- a piece's bytes stand before the rest
pub spelled_front : (piece : Piece) (rest : List ℕ) → spelled piece rest ≡ spelled piece [] ++ rest
spelled_front (Comment inside) rest = ap (λ b. 123 ∷ b) (sym (append_assoc inside (125 ∷ []) rest))
spelled_front (OpenComment inside) rest = ap (λ b. 123 ∷ (b ++ rest)) (sym (append-nil inside))
spelled_front (LineComment inside) rest = ap (λ b. 59 ∷ (b ++ rest)) (sym (append-nil inside))
spelled_front (EscapeLine inside) rest = ap (λ b. 37 ∷ (b ++ rest)) (sym (append-nil inside))
spelled_front (BlankLine spaces true) rest = sym (append_assoc spaces (13 ∷ 10 ∷ []) rest)
spelled_front (BlankLine spaces false) rest = sym (append_assoc spaces (10 ∷ []) rest)
spelled_front (Quoted within) rest = ap (λ b. 34 ∷ b) (sym (append_assoc within (34 ∷ []) rest))
spelled_front (Tagged tag) rest = ap (λ b. 91 ∷ b) (tag_front tag rest)
  where
    tag_front : (tag : Tag) (rest : List ℕ) → tag_text tag rest ≡ tag_text tag [] ++ rest
    tag_front tag rest =
        ap (λ x. tag.before ++ (tag.name ++ (tag.between ++ 34 ∷ (tag.value ++ 34 ∷ x))))
        (sym (append_assoc tag.after (93 ∷ []) rest))
        ∙ ap (λ x. tag.before ++ (tag.name ++ (tag.between ++ 34 ∷ x)))
        (sym (append_assoc tag.value (34 ∷ (tag.after ++ 93 ∷ [])) rest))
        ∙ ap (λ x. tag.before ++ (tag.name ++ x))
        (sym (append_assoc tag.between (34 ∷ (tag.value ++ 34 ∷ (tag.after ++ 93 ∷ []))) rest))
        ∙ ap (λ x. tag.before ++ x)
        (sym (append_assoc tag.name (tag.between ++ 34 ∷ (tag.value ++ 34 ∷ (tag.after ++ 93 ∷ []))) rest))
        ∙ sym (append_assoc tag.before (tag.name ++ (tag.between ++ 34 ∷ (tag.value ++ 34 ∷ (tag.after ++ 93 ∷ []))))
        rest)
spelled_front (Broken after) rest = ap (λ b. 91 ∷ (b ++ rest)) (sym (append-nil after))
spelled_front (Plain byte) rest = refl

pub has_bytes : (piece : Piece) → 0 < size piece
has_bytes (Comment inside) = omega arith
has_bytes (OpenComment inside) = omega arith
has_bytes (LineComment inside) = omega arith
has_bytes (EscapeLine inside) = omega arith
has_bytes (BlankLine spaces true) = let e = length-append spaces (13 ∷ 10 ∷ []) in omega (arith, e)
has_bytes (BlankLine spaces false) = let e = length-append spaces (10 ∷ []) in omega (arith, e)
has_bytes (Quoted within) = omega arith
has_bytes (Tagged tag) = omega arith
has_bytes (Broken after) = omega arith
has_bytes (Plain byte) = omega arith

pub walk_shrinks : (starting : Bool) (text rest : List ℕ) (seen : NextPiece) → Cuts starting text seen rest →
    length rest < length text
walk_shrinks starting text rest seen cuts =
    let long = ap length (cuts.joined ∙ spelled_front cuts.piece rest) ∙ length-append (spelled cuts.piece []) rest in
    omega (arith, long, has_bytes cuts.piece)

pub closes_on : (starting : Bool) (text rest : List ℕ) (seen : NextPiece) (least : ℕ) → Cuts starting text seen rest →
    NoneCloses text least → NoneCloses rest least
closes_on starting text rest seen least cuts none front back e left =
    none (spelled cuts.piece [] ++ front) back
    (cuts.joined ∙ spelled_front cuts.piece rest ∙ ap (λ x. spelled cuts.piece [] ++ x) e
    ∙ sym (append_assoc (spelled cuts.piece []) front (34 ∷ back)))
    left
