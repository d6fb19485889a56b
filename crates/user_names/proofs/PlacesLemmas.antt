-- Places of a text's own, filled with it.
use Rattle.std.proofs.Common.{
  ◌≡◌,
  ℕ,
  ◌+◌,
  ◌-◌,
  ◌≤◌,
  List,
  ◌++◌,
  length,
  take,
  drop,
  replicate,
  sym,
  ap,
  subst,
  ◌∙◌,
  arith,
  length-append,
  length-drop,
}
use Rattle.std.proofs.lemmas.List.{length-replicate}
use Rattle.std.specs.Prelude.{IsUtf8}
use Rattle.std.proofs.Math.Seq.{drop-append_seam, take-append_seam}
use Rattle.std.proofs.lemmas.List.{drop-replicate}
use Rattle.user_names.specs.Places.{IsInPlaces}

back_up : (n most : ℕ) → n ≤ most → n + (most - n) ≡ most
back_up n most h = omega arith

-- what is read of them is the text
pub text_in_front : (most : ℕ) (bytes text : List ℕ) → bytes ≡ text
    → take (length text) (bytes ++ drop (length text) (replicate most 0)) ≡ text
text_in_front most bytes text is =
    ap (λ bs. take (length text) (bs ++ drop (length text) (replicate most 0))) is
    ∙ take-append_seam text (drop (length text) (replicate most 0))

pub filled : (most : ℕ) (bytes text : List ℕ) → bytes ≡ text → length text ≤ most → IsUtf8 text → IsInPlaces most
    (bytes ++ drop (length text) (replicate most 0)) (length text)
filled most bytes text is short utf8 = record {
  places =
      length-append bytes (drop (length text) (replicate most 0))
      ∙ ap (λ n. length bytes + n) (length-drop (length text) (replicate most 0))
      ∙ ap (λ n. length bytes + (n - length text)) (length-replicate most 0)
      ∙ ap (λ bs. length bs + (most - length text)) is
      ∙ back_up (length text) most short;
  short = short;
  rest = ap (λ bs. drop (length text) (bs ++ drop (length text) (replicate most 0))) is ∙ drop-append_seam text
      (drop (length text) (replicate most 0)) ∙ drop-replicate (length text) most 0;
  text = subst IsUtf8 (sym (text_in_front most bytes text is)) utf8;
}
