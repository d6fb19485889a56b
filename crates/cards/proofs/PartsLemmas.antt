-- How a text is cut at a mark, once and into four parts.
use Rattle.std.proofs.Common.{
  ◌≡◌,
  ◌≢◌,
  ℕ,
  zero,
  suc,
  ◌<◌,
  List,
  [],
  ◌∷◌,
  ◌++◌,
  length,
  get_or,
  Some,
  None,
  refl,
  sym,
  ap,
  ◌∙◌,
  arith,
  length-append,
}
use Rattle.std.specs.Borrow.{Bor}
use Rattle.std.proofs.lemmas.List.{get_or_at}
use Rattle.std.proofs.lemmas.Str.Pattern.{IsSplitOnceResult, split_parts}
use Rattle.cards.specs.Parts.{HasNo, JoinsFour}

no_mark_after : (mark first : ℕ) (text : List ℕ) → HasNo mark (first ∷ text) → HasNo mark text
no_mark_after mark first text none i within = none (suc i) (omega arith)

pub no_mark_before : (mark first : ℕ) (text : List ℕ) → first ≢ mark → HasNo mark text → HasNo mark (first ∷ text)
no_mark_before mark first text ne none zero within = ne
no_mark_before mark first text ne none (suc i) within = none i (omega arith)

pub no_mark_in_both : (mark : ℕ) (before after : List ℕ) → HasNo mark before → HasNo mark after →
    HasNo mark (before ++ after)
no_mark_in_both mark [] after none also_none = also_none
no_mark_in_both mark (x ∷ xs) after none also_none = no_mark_before mark x (xs ++ after) (none 0 (omega arith))
    (no_mark_in_both mark xs after (no_mark_after mark x xs none) also_none)

-- a text is cut in one way at the first mark
pub same_parts : (mark : ℕ) (before after also_before also_after : List ℕ) → before ++ mark ∷ after ≡ also_before
    ++ mark ∷ also_after → HasNo mark before → HasNo mark also_before → (before ≡ also_before) × (after ≡ also_after)
same_parts mark [] after [] also_after e none also_none = (refl, cc)
same_parts mark [] after (y ∷ ys) also_after e none also_none = let same : y ≡ mark = cc in
    absurd (also_none 0 (omega arith) same)
same_parts mark (x ∷ xs) after [] also_after e none also_none = let same : x ≡ mark = cc in
    absurd (none 0 (omega arith) same)
same_parts mark (x ∷ xs) after (y ∷ ys) also_after e none also_none =
    let heads : x ≡ y = cc in
    let tails : xs ++ mark ∷ after ≡ ys ++ mark ∷ also_after = cc in
    let rest = same_parts mark xs after ys also_after tails (no_mark_after mark x xs none)
    (no_mark_after mark y ys also_none) in
    ((λ i. heads i ∷ rest.0 i), rest.1)

-- a text without the mark is not cut there
pub no_parts : (mark : ℕ) (text before after : List ℕ) → HasNo mark text → text ≡ before ++ mark ∷ after → ⊥
no_parts mark text before after none is =
    let within : length before < length text = omega (arith, ap length is, length-append before (mark ∷ after)) in
    none (length before) within (ap (λ bs. get_or bs (length before) 0) is ∙ get_or_at before mark after 0
    (length before) refl)

-- what is left of such a text once parts are cut off
after_one : (mark : ℕ) (text one two three four before after : List ℕ) → JoinsFour mark text one two three four →
    text ≡ before ++ mark ∷ after → HasNo mark before → (one ≡ before) × (two ++ mark ∷ (three ++ mark ∷ four) ≡ after)
after_one mark text one two three four before after four_parts is none =
    same_parts mark one _ before after (sym four_parts.joined ∙ is) four_parts.in_one none

after_two : (mark : ℕ) (text one two three four before after between rest : List ℕ) → JoinsFour mark text one two three
    four → text ≡ before ++ mark ∷ after → HasNo mark before → after ≡ between ++ mark ∷ rest → HasNo mark between →
    (two ≡ between) × (three ++ mark ∷ four ≡ rest)
after_two mark text one two three four before after between rest four_parts is none also_is also_none =
    same_parts mark two _ between rest ((after_one mark text one two three four before after four_parts is none).1
    ∙ also_is) four_parts.in_two also_none

-- a text is of four parts in one way
pub same_four : (mark : ℕ) (text one two three four also_one also_two also_three also_four : List ℕ) →
    JoinsFour mark text one two three four → JoinsFour mark text also_one also_two also_three also_four →
    (one ≡ also_one) × (two ≡ also_two) × (three ≡ also_three) × (four ≡ also_four)
same_four mark text one two three four also_one also_two also_three also_four parts also_parts =
    let first = after_one mark text one two three four also_one _ parts also_parts.joined also_parts.in_one in
    let second = after_two mark text one two three four also_one _ also_two _ parts also_parts.joined also_parts.in_one
    refl also_parts.in_two in
    let third = same_parts mark three four also_three also_four second.1 parts.in_three also_parts.in_three in
    (first.0, second.0, third.0, third.1)

-- what three calls of `split_once` give
module _ (mark : ℕ) (ascii : mark < 128) (text : List ℕ) where
  pub cut_in_four : (x y z : Bor (List ℕ) × Bor (List ℕ)) → IsSplitOnceResult mark text (Some x) →
      IsSplitOnceResult mark x.1.now (Some y) → IsSplitOnceResult mark y.1.now (Some z) → JoinsFour mark text x.0.now
      y.0.now z.0.now z.1.now
  cut_in_four x y z first second third =
      let one = split_parts mark text (Some x) first ascii in
      let two = split_parts mark x.1.now (Some y) second ascii in
      let three = split_parts mark y.1.now (Some z) third ascii in
      record {
        joined = one.0 ∙ ap (λ bs. x.0.now ++ mark ∷ bs) (two.0 ∙ ap (λ bs. y.0.now ++ mark ∷ bs) three.0);
        in_one = one.1;
        in_two = two.1;
        in_three = three.1;
      }

  module _ (one two three four : List ℕ) (parts : JoinsFour mark text one two three four) where
    pub is_cut : IsSplitOnceResult mark text None → ⊥
    is_cut first = no_parts mark text one _ (split_parts mark text None first ascii) parts.joined

    pub is_cut_twice : (x : Bor (List ℕ) × Bor (List ℕ)) → IsSplitOnceResult mark text (Some x) → IsSplitOnceResult mark
        x.1.now None → ⊥
    is_cut_twice x first second =
        let cut = split_parts mark text (Some x) first ascii in
        no_parts mark x.1.now two _ (split_parts mark x.1.now None second ascii)
        (sym (after_one mark text one two three four x.0.now x.1.now parts cut.0 cut.1).1)

    pub is_cut_thrice : (x y : Bor (List ℕ) × Bor (List ℕ)) → IsSplitOnceResult mark text (Some x) →
        IsSplitOnceResult mark x.1.now (Some y) → IsSplitOnceResult mark y.1.now None → ⊥
    is_cut_thrice x y first second third =
        let cut = split_parts mark text (Some x) first ascii in
        let also_cut = split_parts mark x.1.now (Some y) second ascii in
        no_parts mark y.1.now three _ (split_parts mark y.1.now None third ascii)
        (sym (after_two mark text one two three four x.0.now x.1.now y.0.now y.1.now parts cut.0 cut.1 also_cut.0
        also_cut.1).1)
