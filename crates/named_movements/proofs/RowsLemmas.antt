-- The rows of a movement that is named, each by its place.
use Rattle.std.proofs.Common.{◌≡◌, ℕ, zero, suc, ◌+◌, ◌-◌, ◌*◌, ◌/◌, ◌%◌, ◌<◌, List, ◌∷◌, ◌++◌, map, refl, sym, ap, ◌∙◌, arith}
use Rattle.std.specs.List.{flat_map, range_with_len}
use Rattle.std.proofs.lemmas.List.{map-append}
use Rattle.std.proofs.lemmas.Nat.{div-mul-add, mod-mul-add}
use Rattle.std.proofs.lemmas.Simd.{map-map}
use Rattle.movement.specs.Switched.{switched_after, switched}
use Rattle.movement.specs.declared.row.Row.{Row}
use Rattle.named_movements.specs.Named.{named_rows}
use Rattle.named_movements.specs.Words.{row_of_word, rows_of_word}
use Rattle.named_movements.specs.declared.movement_word.MovementWord.{MovementWord}
use Rattle.named_movements.specs.declared.named_movement.NamedMovement.{NamedMovement}

-- the row of a word's movement at a place: the rows stand by round
abbrev pub word_row : MovementWord → ℕ → ℕ → ℕ → Row
word_row word tables rounds place = row_of_word word tables rounds (place / tables) (place % tables)

-- the row of a movement at a place
abbrev pub row_by_place : NamedMovement → ℕ → Row
row_by_place named place =
    switched_after (named.rounds - named.switched) (word_row named.word named.tables named.rounds place)

-- two functions that agree on ranges of one length
same_on : {X : Type 0} (f g : ℕ → X) (a b n : ℕ) → ((i : ℕ) → i < n → f (a + i) ≡ g (b + i)) →
    map f (range_with_len a n) ≡ map g (range_with_len b n)
same_on f g a b zero same = refl
same_on f g a b (suc n) same =
    let here : f a ≡ g b = ap f (omega arith) ∙ same 0 (omega arith) ∙ ap g (omega arith) in
    let later : map f (range_with_len (a + 1) n) ≡ map g (range_with_len (b + 1) n) =
    same_on f g (a + 1) (b + 1) n (λ i below. ap f (omega arith) ∙ same (i + 1) (omega arith) ∙ ap g (omega arith)) in
    λ j. here j ∷ later j

-- a range in two parts
range_parts : (a m n total : ℕ) → total ≡ m + n →
    range_with_len a total ≡ range_with_len a m ++ range_with_len (a + m) n
range_parts a zero n total is =
    let same : total ≡ n = omega arith in
    let from : a + 0 ≡ a = omega arith in
    rw (same, from) refl
range_parts a (suc m) n total is =
    let same : total ≡ suc (m + n) = omega arith in
    let from : a + suc m ≡ a + 1 + m = omega arith in
    rw (same, from) (ap (λ rest. a ∷ rest) (range_parts (a + 1) m n (m + n) refl))

module _ {X : Type 0} (f : ℕ → ℕ → X) (n : ℕ) where
  -- the item at a place
  at : ℕ → X
  at k = f (k / n) (k % n)

  -- those of one round
  of_round : (a : ℕ) → map (f a) (range_with_len 0 n) ≡ map at (range_with_len (a * n) n)
  unfolding at
  of_round a = same_on (f a) at 0 (a * n) n (λ i below.
      let round : (a * n + i) / n ≡ a = div-mul-add a n i below in
      let rest : (a * n + i) % n ≡ i = mod-mul-add a n i below in
      let plain : 0 + i ≡ i = omega arith in
      rw (round, rest, plain) refl)

  -- the items of so many rounds are those at so many places
  pub by_rounds : (a m total : ℕ) → total ≡ m * n →
      flat_map (λ round. map (f round) (range_with_len 0 n)) (range_with_len a m) ≡
      map (λ k. f (k / n) (k % n)) (range_with_len (a * n) total)
  unfolding at
  by_rounds a zero total is =
      let none : total ≡ 0 = omega arith in
      rw none refl
  by_rounds a (suc m) total is =
      let parts = range_parts (a * n) n (m * n) total (is ∙ omega arith) in
      let next : (a + 1) * n ≡ a * n + n = omega arith in
      let later = by_rounds (a + 1) m (m * n) refl in
      ap (λ (items : List X). items ++ flat_map (λ round. map (f round) (range_with_len 0 n)) (range_with_len (a + 1) m))
      (of_round a)
      ∙ ap (λ (items : List X). map at (range_with_len (a * n) n) ++ items)
      (later ∙ ap (λ (from : ℕ). map at (range_with_len from (m * n))) next)
      ∙ sym (map-append at (range_with_len (a * n) n) (range_with_len (a * n + n) (m * n)))
      ∙ ap (map at) (sym parts)

pub word_rows_are : (word : MovementWord) (tables rounds : ℕ) →
    rows_of_word word tables rounds ≡ map (word_row word tables rounds) (range_with_len 0 (rounds * tables))
unfolding rows_of_word
word_rows_are word tables rounds =
    by_rounds (λ round k. row_of_word word tables rounds round k) tables 0 rounds (rounds * tables) refl
    ∙ ap (λ (from : ℕ). map (word_row word tables rounds) (range_with_len from (rounds * tables))) (omega arith)

pub named_rows_are : (named : NamedMovement) →
    named_rows named ≡ map (row_by_place named) (range_with_len 0 (named.rounds * named.tables))
unfolding switched
named_rows_are named =
    ap (map (switched_after (named.rounds - named.switched))) (word_rows_are named.word named.tables named.rounds)
    ∙ map-map (switched_after (named.rounds - named.switched)) (word_row named.word named.tables named.rounds) _
