-- What is cut out of a hand, by the bits that stand for its cards.
use Rattle.std.proofs.Common.{
  ◌≡◌,
  ℕ,
  ◌+◌,
  ◌-◌,
  ◌*◌,
  ◌^◌,
  ◌<◌,
  ◌≤◌,
  ◌%◌,
  Bool,
  true,
  false,
  bit_and,
  refl,
  sym,
  ap,
  ◌∙◌,
  inl,
  inr,
  arith,
  zero,
  suc,
  min,
  lit<,
}
use Rattle.std.specs.Prelude.{nat_eq, nat_lt, not, ◌&&◌}
use Rattle.std.specs.FinSet as set
use Rattle.std.specs.Int.{bit_at, bit_not, w64, trailing_zeros}
use Rattle.std.proofs.lemmas.Bool.{cases_lt, cases_eq, eq-eqb, ne_eqb, lt-ltb, le-ltb, and_from, and_left, and_right}
use Rattle.std.proofs.lemmas.Nat.Bits.{
  bit_at-lt,
  bit_at_and,
  bit_at_not,
  bit_at_above,
  bit_at_mask_inside,
  bit_at_mask_below,
  bit_at_mask_above,
  bit_at-trailing_zeros,
}
use Rattle.std.proofs.lemmas.Nat.{pow_below, and_le_l}
use Rattle.std.proofs.Math.Nat.{mod-eq_of_lt, pow-suc, mul_comm, pow-le-pow_right}
use Rattle.cards.specs.declared.card.Card.{Card}
use Rattle.table_terms.specs.declared.suit.Suit.{Suit}
use Rattle.table_terms.specs.declared.suit.Suit.TheVariants.{Spades, Hearts, Diamonds, Clubs}
use Rattle.cards.specs.Card.{number_in_pack}
use Rattle.table_terms.specs.Suit.{suit_number}
use Rattle.cards.specs.Cards.{has_card_bit, cards_of_bits}
use Rattle.cards.specs.CardBits.{card_cmp_total, contains-cards_of_bits}
use Rattle.cards.proofs.CardBitsLemmas.{height_below, number_below, same_cards, card_cmp-IsAntisymmetric}
use Rattle.cards.specs.Play.{is_of}

both_bits : (x y : ℕ) → x < 2 → y < 2 → nat_eq (min x y) 1 ≡ (nat_eq x 1 && nat_eq y 1)
both_bits zero zero hx hy = refl
both_bits zero (suc zero) hx hy = refl
both_bits (suc zero) zero hx hy = refl
both_bits (suc zero) (suc zero) hx hy = refl
both_bits (suc (suc x)) y hx hy = absurd (omega arith)
both_bits x (suc (suc y)) hx hy = absurd (omega arith)

flipped : (y : ℕ) → y < 2 → nat_eq (1 - y) 1 ≡ not (nat_eq y 1)
flipped zero h = refl
flipped (suc zero) h = refl
flipped (suc (suc y)) h = absurd (omega arith)

-- what is cut out of a word is no greater
pub and_below : (a b n : ℕ) → a < n → bit_and a b < n
and_below a b n small = omega (arith, and_le_l a b)

-- a card's bit in a word that is cut by another
pub has_card_bit-and : (a b : ℕ) (card : Card) → has_card_bit (bit_and a b) card ≡
    (has_card_bit a card && has_card_bit b card)
has_card_bit-and a b card =
    ap (λ x. nat_eq x 1) (bit_at_and a b (number_in_pack card))
    ∙ both_bits _ _ (bit_at-lt a (number_in_pack card)) (bit_at-lt b (number_in_pack card))

pub has_card_bit-not : (b : ℕ) (card : Card) → b < 2 ^ 52 → has_card_bit (bit_not w64 b) card ≡ not
    (has_card_bit b card)
has_card_bit-not b card small =
    let large : 2 ^ 52 < 2 ^ 64 = lit< tt in
    ap (λ x. nat_eq x 1) (bit_at_not w64 b (number_in_pack card) (omega arith) (omega (arith, number_below card)))
    ∙ flipped (bit_at b (number_in_pack card)) (bit_at-lt b (number_in_pack card))

pub without_others : (a b : ℕ) (card : Card) → b < 2 ^ 52 →
    has_card_bit (bit_and a (bit_not w64 b)) card ≡ (has_card_bit a card && not (has_card_bit b card))
without_others a b card small =
    has_card_bit-and a (bit_not w64 b) card
    ∙ ap (λ x. has_card_bit a card && x) (has_card_bit-not b card small)

-- the bits from one place up to another
pub has_card_bit-mask : (low high : ℕ) (card : Card) →
    has_card_bit (2 ^ high - 2 ^ low) card ≡ (nat_lt (number_in_pack card) high && not
    (nat_lt (number_in_pack card) low))
has_card_bit-mask low high card =
    elim (cases_lt (number_in_pack card) low) [
      | inl below ↦
          ap (λ x. nat_eq x 1) (bit_at_mask_below low high (number_in_pack card) below)
          ∙ sym (and_right (nat_lt (number_in_pack card) high) _ (ap not (lt-ltb _ _ below)))
      | inr from ↦ elim (cases_lt (number_in_pack card) high) [
        | inl inside ↦
            ap (λ x. nat_eq x 1) (bit_at_mask_inside low high (number_in_pack card) from inside)
            ∙ sym (and_from _ _ (lt-ltb _ _ inside) (ap not (le-ltb _ _ from)))
        | inr above ↦
            ap (λ x. nat_eq x 1) (bit_at_mask_above low high (number_in_pack card) above)
            ∙ sym (and_left _ (not (nat_lt (number_in_pack card) low)) (le-ltb _ _ above))
      ]
    ]

pub power_small : (k : ℕ) → k < 64 → 1 * 2 ^ k % 2 ^ 64 ≡ 2 ^ k
power_small k small =
    let short : 2 ^ k < 2 ^ 64 = pow_below k 64 small in
    let word : 1 * 2 ^ k < 2 ^ 64 = omega arith in
    mod-eq_of_lt word ∙ omega arith

pub double_power : (k : ℕ) → k < 63 → 2 * 2 ^ k % 2 ^ 64 ≡ 2 ^ suc k
double_power k small =
    let short : 2 ^ k < 2 ^ 63 = pow_below k 63 small in
    let word : 2 * 2 ^ k < 2 ^ 64 = omega arith in
    mod-eq_of_lt word ∙ mul_comm 2 (2 ^ k) ∙ sym (pow-suc 2 k)

-- above a number is not below its successor
not_below_next : (low n : ℕ) → not (nat_lt n (suc low)) ≡ nat_lt low n
not_below_next low n =
    elim (cases_lt low n) [
      | inl above ↦ ap not (le-ltb n (suc low) (omega arith)) ∙ sym (lt-ltb low n above)
      | inr below ↦ ap not (lt-ltb n (suc low) (omega arith)) ∙ sym (le-ltb low n below)
    ]

and_swap : (a b : Bool) → (a && b) ≡ (b && a)
and_swap true true = refl
and_swap true false = refl
and_swap false true = refl
and_swap false false = refl

pub bits_between : (low high : ℕ) (card : Card) → low < high → high < 52 →
    has_card_bit (1 * 2 ^ high % 2 ^ 64 - 2 * 2 ^ low % 2 ^ 64) card ≡ (nat_lt low (number_in_pack card) && nat_lt
    (number_in_pack card) high)
bits_between low high card less small =
    (λ i. has_card_bit (power_small high (omega arith) i - double_power low (omega arith) i) card)
    ∙ has_card_bit-mask (suc low) high card
    ∙ ap (λ b. nat_lt (number_in_pack card) high && b) (not_below_next low (number_in_pack card))
    ∙ and_swap (nat_lt (number_in_pack card) high) (nat_lt low (number_in_pack card))

pub between_small : (low high : ℕ) → low < high → high < 52 → 1 * 2 ^ high % 2 ^ 64 - 2 * 2 ^ low % 2 ^ 64 < 2 ^ 52
between_small low high less small =
    let short : 2 ^ high < 2 ^ 52 = pow_below high 52 small in
    let word : 1 * 2 ^ high % 2 ^ 64 ≡ 2 ^ high = power_small high (omega arith) in
    omega arith

pub between_order : (low high : ℕ) → low < high → high < 52 → 2 * 2 ^ low % 2 ^ 64 ≤ 1 * 2 ^ high % 2 ^ 64
between_order low high less small =
    let more : 2 ^ suc low ≤ 2 ^ high = pow-le-pow_right {n = 2} (omega arith) {i = suc low} {j = high} (omega arith) in
    let high_word : 1 * 2 ^ high % 2 ^ 64 ≡ 2 ^ high = power_small high (omega arith) in
    let low_word : 2 * 2 ^ low % 2 ^ 64 ≡ 2 ^ suc low = double_power low (omega arith) in
    omega arith

-- a card's place within its suit
suit_place : (suit : Suit) (card : Card) →
    (nat_lt (number_in_pack card) (13 * suit_number suit + 13) && not
    (nat_lt (number_in_pack card) (13 * suit_number suit))) ≡ is_of suit card
suit_place suit card =
    elim (cases_eq (suit_number suit) (suit_number card.suit)) [
      | inl same ↦
          and_from _ _ (lt-ltb _ _ (omega (arith, height_below card.rank)))
          (ap not (le-ltb (number_in_pack card) (13 * suit_number suit) (omega arith)))
          ∙ sym (eq-eqb _ _ same)
      | inr other ↦ elim (cases_lt (suit_number suit) (suit_number card.suit)) [
        | inl less ↦
            and_left _ (not (nat_lt (number_in_pack card) (13 * suit_number suit))) (le-ltb _ _ (omega arith))
            ∙ sym (ne_eqb _ _ other)
        | inr more ↦
            and_right (nat_lt (number_in_pack card) (13 * suit_number suit + 13)) _
            (ap not (lt-ltb (number_in_pack card) (13 * suit_number suit) (omega (arith, height_below card.rank))))
            ∙ sym (ne_eqb _ _ other)
      ]
    ]

-- the mask of a suit
pub suit_bits : (word mask : ℕ) (suit : Suit) → mask ≡ 2 ^ (13 * suit_number suit + 13) - 2 ^ (13 * suit_number suit) →
    cards_of_bits (bit_and word mask) ≡ set.retain (cards_of_bits word) (is_of suit)
suit_bits word mask suit e = same_cards _ _ (λ card.
    contains-cards_of_bits (bit_and word mask) card
    ∙ has_card_bit-and word mask card
    ∙ (λ i. sym (contains-cards_of_bits word card) i && (ap (λ m. has_card_bit m card) e ∙ has_card_bit-mask
    (13 * suit_number suit) (13 * suit_number suit + 13) card ∙ suit_place suit card) i)
    ∙ sym (set.contains-retain (cards_of_bits word) (is_of suit) card
    (λ x e. ap (is_of suit) (sym (card_cmp-IsAntisymmetric card x e)))))

-- the lowest bit of a word
pub lowest_bit : (word : ℕ) → word < 2 ^ 52 → (word ≡ 0 → ⊥) →
    (trailing_zeros w64 word < 52) × (bit_at word (trailing_zeros w64 word) ≡ 1) ×
    ((k : ℕ) → bit_at word k ≡ 1 → trailing_zeros w64 word ≤ k)
lowest_bit word small some =
    let large : 2 ^ 52 < 2 ^ 64 = lit< tt in
    let low = bit_at-trailing_zeros w64 word (omega arith) (omega arith) in
    let least : (k : ℕ) → bit_at word k ≡ 1 → trailing_zeros w64 word ≤ k =
    λ k set. elim (cases_lt k (trailing_zeros w64 word)) [
      | inl below ↦ absurd (omega (arith, low.2 k below, set))
      | inr above ↦ above
    ] in
    elim (cases_lt (trailing_zeros w64 word) 52) [
      | inl below ↦ (below, low.1, least)
      | inr above ↦ absurd (omega (arith, bit_at_above word 52 (trailing_zeros w64 word) small above, low.1))
    ]

-- the bits of one word without those of another
pub cards_of_bits-without : (a b : ℕ) → b < 2 ^ 52 →
    cards_of_bits (bit_and a (bit_not w64 b)) ≡ set.difference (cards_of_bits a) (cards_of_bits b)
cards_of_bits-without a b small = same_cards _ _ (λ card.
    contains-cards_of_bits _ card
    ∙ without_others a b card small
    ∙ (λ i. sym (contains-cards_of_bits a card) i && not (sym (contains-cards_of_bits b card) i))
    ∙ sym (set.contains-difference card_cmp_total (cards_of_bits a) (cards_of_bits b) card))

-- the spades' thirteen bits, moved to another suit
pub suit_mask : (suit : Suit) →
    8191 * 2 ^ (13 * suit_number suit) % 2 ^ 64 ≡ 2 ^ (13 * suit_number suit + 13) - 2 ^ (13 * suit_number suit)
suit_mask Spades = refl
suit_mask Hearts = refl
suit_mask Diamonds = refl
suit_mask Clubs = refl
