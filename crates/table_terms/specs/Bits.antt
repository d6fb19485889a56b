-- What stays where a list is filtered, and where a bit of a word is set or cleared: sets of cards and of numbers rest
-- on it.
use Rattle.std.proofs.Common.{
  ◌≡◌,
  ℕ,
  ◌*◌,
  ◌^◌,
  ◌<◌,
  ◌%◌,
  Bool,
  true,
  false,
  cond,
  List,
  [],
  ◌∷◌,
  refl,
  sym,
  ap,
  ◌∙◌,
  inl,
  inr,
}
use Rattle.std.specs.Prelude.{nat_eq, filter, ◌||◌, ◌&&◌, not, bit_or, bit_and}
use Rattle.std.specs.List.{list_any}
use Rattle.std.specs.Int.{Width, bit_at, bit_not}
use mir.Val.{bits}
use Rattle.std.proofs.lemmas.Bool.{eq-eqb, ne_eqb, cases_eq}
use Rattle.std.proofs.lemmas.Nat.Bits.{bit_at_set_same, bit_at_set_other, bit_at_clear_same, bit_at_clear_other}

never : (d : Bool) → (d && false) ≡ false
never true = refl
never false = refl

kept : (a b c d : Bool) → (a ≡ true → b ≡ true) → c ≡ (d && b) → (a || c) ≡ ((a || d) && b)
kept true b c d h e = sym (h refl)
kept false b c d h e = e

dropped : (a b c d : Bool) → (a ≡ true → b ≡ false) → c ≡ (d && b) → c ≡ ((a || d) && b)
dropped true b c d h e = e ∙ ap (λ x. d && x) (h refl) ∙ never d ∙ sym (h refl)
dropped false b c d h e = e

-- a filter keeps what passes
pub any_filter : {X : Type 0} (e p : X → Bool) (q : X) → ((x : X) → e x ≡ true → p x ≡ p q) → (xs : List X) →
    list_any e (filter p xs) ≡ (list_any e xs && p q)
any_filter e p q alike [] = refl
any_filter e p q alike (x ∷ xs) =
    elim (p x) as (λ b. p x ≡ b → list_any e (cond b (x ∷ filter p xs) (filter p xs)) ≡ ((e x || list_any e xs) && p q)) [
      | true ↦ λ passes. kept (e x) (p q) _ _ (λ same. sym (alike x same) ∙ passes) (any_filter e p q alike xs)
      | false ↦ λ fails. dropped (e x) (p q) _ _ (λ same. sym (alike x same) ∙ fails) (any_filter e p q alike xs)
    ] refl

-- a bit that is set is there beside the others
pub set_bit : (w : Width) (word k j : ℕ) → k < bits w → nat_eq (bit_at (bit_or word (1 * 2 ^ k % 2 ^ bits w)) j) 1 ≡
    (nat_eq j k || nat_eq (bit_at word j) 1)
set_bit w word k j within =
    elim (cases_eq j k) [
      | inl same ↦ ap (λ x. nat_eq x 1) (ap (bit_at (bit_or word (1 * 2 ^ k % 2 ^ bits w))) same ∙ bit_at_set_same w
          word k within) ∙ sym (ap (λ b. b || nat_eq (bit_at word j) 1) (eq-eqb j k same))
      | inr other ↦ ap (λ x. nat_eq x 1) (bit_at_set_other w word k within j other)
          ∙ sym (ap (λ b. b || nat_eq (bit_at word j) 1) (ne_eqb j k other))
    ]

-- a bit that is cleared is gone, and the others stay
pub clear_bit : (w : Width) (word k j : ℕ) → k < bits w → j < bits w →
    nat_eq (bit_at (bit_and word (bit_not w (1 * 2 ^ k % 2 ^ bits w))) j) 1 ≡
    (not (nat_eq j k) && nat_eq (bit_at word j) 1)
clear_bit w word k j within also_within =
    elim (cases_eq j k) [
      | inl same ↦ ap (λ x. nat_eq x 1) (ap (bit_at (bit_and word (bit_not w (1 * 2 ^ k % 2 ^ bits w)))) same
          ∙ bit_at_clear_same w word k within) ∙ sym (ap (λ b. not b && nat_eq (bit_at word j) 1) (eq-eqb j k same))
      | inr other ↦ ap (λ x. nat_eq x 1) (bit_at_clear_other w word k within j also_within other)
          ∙ sym (ap (λ b. not b && nat_eq (bit_at word j) 1) (ne_eqb j k other))
    ]
