-- Sets of cards against the bits that stand for them: what is done to a word is done to its set.
use Rattle.std.proofs.Common.{
  ◌≡◌,
  ℕ,
  ◌+◌,
  ◌*◌,
  ◌^◌,
  ◌<◌,
  ◌%◌,
  ◌/◌,
  ◌-◌,
  Bool,
  true,
  false,
  cond,
  List,
  [],
  ◌∷◌,
  sum_by,
  map,
  refl,
  sym,
  ap,
  ◌∙◌,
  subst,
  arith,
  zero,
  suc,
  min,
  zero-add,
  add_assoc,
  inl,
  inr,
}
use Rattle.std.specs.Prelude.{nat_eq, filter, ◌||◌, ◌&&◌, not, bit_or, bit_and}
use Rattle.std.specs.List.{list_any, range_with_len}
use Rattle.std.specs.FinSet as set
use Rattle.std.specs.FinMap.{IsAntisymmetric, nat_cmp-IsAntisymmetric}
use Rattle.std.specs.Cmp.{unsigned_tied}
use Rattle.std.specs.Ordering.{eq_by_cmp}
use Rattle.std.specs.Bool.{Decides}
use Rattle.std.specs.Int.{Width, bit_at, bit_not, w64}
use mir.Val.{bits}
use Rattle.std.specs.Int.Count.{ones, ones_step, ones-ones}
use Rattle.std.proofs.lemmas.List.FromFn.{sum_by-map-range_with_len_more}
use Rattle.std.proofs.lemmas.Bool.{
  eqb-true,
  eq-eqb,
  ne_eqb,
  cases_eq,
  agree_below_at,
  eqb-false,
  cases_lt,
  and_parts,
  not-true,
}
use Rattle.std.proofs.lemmas.Nat.Bits.{
  bit_at-lt,
  bit_at-zero,
  bit_at_and,
  bit_at_above,
  same_from_bits,
  bit_at_lowest,
  bit_at_cat_low,
  bit_at_cat_high,
  bit_at_set_same,
  bit_at_set_other,
  bit_at_clear_same,
  bit_at_clear_other,
}
use Rattle.std.proofs.Math.Nat.{
  pow-suc,
  div-div-eq-div-mul,
  mod-eq_of_lt,
  mul_comm,
  add_comm,
  add-zero,
  mul-one,
  div-one,
  div-eq_of_lt,
}
use Rattle.std.proofs.Math.Numerals.{add-one}
use Rattle.std.proofs.Math.Arith.{digits_lt}
use Rattle.std.proofs.lemmas.Nat.{pow_below}
use Rattle.table_terms.specs.declared.suit.Suit.{Suit}
use Rattle.table_terms.specs.declared.suit.Suit.TheVariants.{Spades, Hearts, Diamonds, Clubs}
use Rattle.table_terms.specs.Bits.{any_filter, set_bit, clear_bit}
use Rattle.cards.specs.declared.rank.Rank.{Rank}
use Rattle.cards.specs.declared.card.Card.{Card}
use Rattle.table_terms.specs.Suit.{suit_number}
use Rattle.cards.specs.Rank.{height}
use Rattle.cards.specs.Card.{card_cmp, pack, number_in_pack}
use Rattle.cards.specs.Cards.{Cards, has_card_bit, cards_of_bits, bits_of_cards, AreDisjoint, are_same}
use Rattle.cards.specs.CardBits.{
  each_rank,
  card_at,
  card_at-number,
  same_number,
  card_cmp_total,
  tied_is_equal,
  contains-cards_of_bits,
  digit_weight,
  bits_of_cards-cards_of_bits,
}

-- a number below 52 is that of a card
number-card_at : (n : ℕ) → n < 52 → number_in_pack (card_at n) ≡ n
unfolding card_at pack
number-card_at n below = eqb-true _ _ (agree_below_at (λ k. nat_eq (number_in_pack (card_at k)) k) (λ _. true) 52 n refl
    below)

suit_below : (suit : Suit) → suit_number suit < 4
suit_below Spades = omega arith
suit_below Hearts = omega arith
suit_below Diamonds = omega arith
suit_below Clubs = omega arith

pub height_below : (rank : Rank) → height rank < 13
height_below = each_rank (λ rank. height rank < 13) (omega arith) (omega arith) (omega arith) (omega arith)
    (omega arith) (omega arith) (omega arith) (omega arith) (omega arith) (omega arith) (omega arith) (omega arith)
    (omega arith)

pub number_below : (card : Card) → number_in_pack card < 52
number_below card = omega (arith, suit_below card.suit, height_below card.rank)

pub card_cmp-IsAntisymmetric : IsAntisymmetric card_cmp
card_cmp-IsAntisymmetric a b e = same_number a b (nat_cmp-IsAntisymmetric _ _ e)

-- two sets with the same cards are equal
pub same_cards : (s t : Cards) → ((card : Card) → set.contains s card ≡ set.contains t card) → s ≡ t
same_cards = set.same_set card_cmp_total card_cmp-IsAntisymmetric

-- no bit is set in 0
pub cards_of_no_bits : cards_of_bits 0 ≡ set.empty
cards_of_no_bits = same_cards _ _ (λ card. contains-cards_of_bits 0 card ∙ no_bit card
    ∙ sym (set.contains-empty card_cmp card))
  where
    no_bit : (card : Card) → has_card_bit 0 card ≡ false
    no_bit card = ap (λ x. nat_eq x 1) (bit_at-zero (number_in_pack card))

eq_by_number : (a b : Card) → eq_by_cmp card_cmp a b ≡ nat_eq (number_in_pack a) (number_in_pack b)
eq_by_number a b = unsigned_tied (number_in_pack a) (number_in_pack b)

-- a bit that is set is there beside the others
pub cards_of_bits-set : (bits : ℕ) (card : Card) → cards_of_bits (bit_or bits (1 * 2 ^ number_in_pack card % 2 ^ 64)) ≡
    set.insert (cards_of_bits bits) card
cards_of_bits-set bits card = same_cards _ _ (λ other.
    contains-cards_of_bits _ other
    ∙ set_bit w64 bits (number_in_pack card) (number_in_pack other) (omega (arith, number_below card))
    ∙ (λ i. sym (eq_by_number other card) i || sym (contains-cards_of_bits bits other) i)
    ∙ sym (set.contains-insert card_cmp_total (cards_of_bits bits) card other))

-- a bit that is cleared is gone, and the others stay
pub cards_of_bits-clear : (bits : ℕ) (card : Card) → cards_of_bits
    (bit_and bits (bit_not w64 (1 * 2 ^ number_in_pack card % 2 ^ 64))) ≡ set.remove (cards_of_bits bits) card
cards_of_bits-clear bits card = same_cards _ _ (λ other.
    contains-cards_of_bits _ other
    ∙ clear_bit w64 bits (number_in_pack card) (number_in_pack other) (omega (arith, number_below card))
    (omega (arith, number_below other))
    ∙ (λ i. not (sym (eq_by_number other card) i) && sym (contains-cards_of_bits bits other) i)
    ∙ sym (set.contains-remove card_cmp_total (cards_of_bits bits) card other))

-- the sum of a card's values over a list
total : (Card → ℕ) → List Card → ℕ
total f [] = 0
total f (card ∷ cards) = f card + total f cards

-- no card stands twice in a list
abbrev are_apart : List Card → Bool
are_apart [] = true
are_apart (card ∷ cards) = not (list_any (eq_by_cmp card_cmp card) cards) && are_apart cards

-- the set of a list's cards that pass has one card for each that passes
len-filter : (p : Card → Bool) (cards : List Card) → are_apart cards ≡ true → set.len {R = card_cmp}
    (set.from_list (filter p cards)) ≡ total (λ card. cond (p card) 1 0) cards
unfolding total
len-filter p [] apart = set.len-empty card_cmp
len-filter p (card ∷ cards) apart =
    let parts = and_parts _ _ apart in
    let absent : list_any (eq_by_cmp card_cmp card) cards ≡ false = not-true _ parts.0 in
    elim (p card) as (λ b. p card ≡ b → set.len {R = card_cmp}
    (set.from_list (cond b (card ∷ filter p cards) (filter p cards))) ≡ cond b 1 0 + total
    (λ card. cond (p card) 1 0) cards) [
      | true ↦ λ passes.
          set.len-insert card_cmp_total (set.from_list (filter p cards)) card
          ∙ ap (λ b. cond b (set.len {R = card_cmp} (set.from_list (filter p cards)))
          (set.len {R = card_cmp} (set.from_list (filter p cards)) + 1))
          (set.contains-from_list card_cmp_total (filter p cards) card
          ∙ any_filter (eq_by_cmp card_cmp card) p card (λ x e. ap p (sym (tied_is_equal card x e))) cards
          ∙ ap (λ b. b && p card) absent)
          ∙ ap (λ n. n + 1) (len-filter p cards parts.1)
          ∙ add_comm _ _
      | false ↦ λ fails. len-filter p cards parts.1 ∙ sym (zero-add _)
    ] refl

-- n digits from one place on
digits_from : ℕ → ℕ → ℕ → ℕ
digits_from bits k zero = 0
digits_from bits k (suc n) = bit_at bits k + digits_from bits (k + 1) n

ones-digits : (bits k n : ℕ) → ones (bits / 2 ^ k) ≡ digits_from bits k n + ones (bits / 2 ^ (k + n))
unfolding digits_from
ones-digits bits k zero = ap (λ m. ones (bits / 2 ^ m)) (sym (add-zero k)) ∙ sym (zero-add _)
ones-digits bits k (suc n) =
    ones_step (bits / 2 ^ k)
    ∙ ap (λ m. bit_at bits k + ones m) (div-div-eq-div-mul bits (2 ^ k) 2 ∙ ap (λ m. bits / m)
    (sym (pow-suc 2 k) ∙ ap (λ m. 2 ^ m) (sym (add-one k))))
    ∙ ap (λ m. bit_at bits k + m) (ones-digits bits (k + 1) n)
    ∙ sym (add_assoc (bit_at bits k) (digits_from bits (k + 1) n) _)
    ∙ ap (λ m. bit_at bits k + digits_from bits (k + 1) n + ones (bits / 2 ^ m)) (next k n)
  where
    next : (k n : ℕ) → k + 1 + n ≡ k + suc n
    next k n = omega arith

-- a word has as many digits set as its set has cards
pub len-cards_of_bits : (bits : ℕ) → bits < 2 ^ 52 → set.len (cards_of_bits bits) ≡ ones bits
unfolding cards_of_bits total pack digits_from
len-cards_of_bits bits small =
    len-filter (has_card_bit bits) pack refl
    ∙ (λ i. total (λ card. digit_weight (bit_at bits (number_in_pack card)) 1 (bit_at-lt bits (number_in_pack card)) i)
    pack)
    ∙ (λ i. total (λ card. mul-one (bit_at bits (number_in_pack card)) i) pack)
    ∙ sym (add-zero _)
    ∙ ap (λ m. digits_from bits 0 52 + m) (sym (ones-ones 0) ∙ ap ones (sym (div-eq_of_lt small)))
    ∙ sym (ones-digits bits 0 52)
    ∙ ap ones (div-one bits)

-- two words are the same exactly where their sets are
pub are_same-cards_of_bits : (a b : ℕ) → a < 2 ^ 52 → b < 2 ^ 52 → are_same (cards_of_bits a) (cards_of_bits b) ≡ nat_eq
    a b
are_same-cards_of_bits a b small also_small i = nat_eq (bits_of_cards-cards_of_bits a small i)
    (bits_of_cards-cards_of_bits b also_small i)

-- only 0 stands for no cards
pub no_bits_of_none : (bits : ℕ) → bits < 2 ^ 52 → cards_of_bits bits ≡ set.empty → bits ≡ 0
no_bits_of_none bits small none =
    sym (bits_of_cards-cards_of_bits bits small) ∙ ap bits_of_cards (none ∙ sym cards_of_no_bits)
    ∙ bits_of_cards-cards_of_bits 0 (omega arith)

-- two words without a common digit stand for disjoint sets, and two disjoint sets for such words
pub disjoint_of_bits : (a b : ℕ) → bit_and a b ≡ 0 → AreDisjoint (cards_of_bits a) (cards_of_bits b)
disjoint_of_bits a b none card in_a =
    let k = number_in_pack card in
    let set_in_a : bit_at a k ≡ 1 = eqb-true _ _ (sym (contains-cards_of_bits a card) ∙ in_a) in
    let in_neither : min (bit_at a k) (bit_at b k) ≡ 0 = sym (bit_at_and a b k) ∙ ap (λ m. bit_at m k) none
    ∙ bit_at-zero k in
    contains-cards_of_bits b card ∙ ne_eqb (bit_at b k) 1 (λ set_in_b. omega arith)

pub bits_of_disjoint : (a b : ℕ) → a < 2 ^ 52 → AreDisjoint (cards_of_bits a) (cards_of_bits b) → bit_and a b ≡ 0
bits_of_disjoint a b small apart = same_from_bits _ 0 (λ k. bit_at_and a b k ∙ in_neither k ∙ sym (bit_at-zero k))
  where
    clear_in_b : (card : Card) → bit_at a (number_in_pack card) ≡ 1 → bit_at b (number_in_pack card) ≡ 1 → ⊥
    clear_in_b card set_in_a = eqb-false _ _ (sym (contains-cards_of_bits b card) ∙ apart card
        (contains-cards_of_bits a card ∙ eq-eqb _ _ set_in_a))

    in_neither : (k : ℕ) → min (bit_at a k) (bit_at b k) ≡ 0
    in_neither k =
        elim (cases_lt k 52) [
          | inl below ↦
              let clear : bit_at a k ≡ 1 → bit_at b k ≡ 1 → ⊥ = subst (λ m. bit_at a m ≡ 1 → bit_at b m ≡ 1 → ⊥)
              (number-card_at k below) (clear_in_b (card_at k)) in
              elim (cases_eq (bit_at a k) 1) [
                | inl set_in_a ↦ let clear_b = clear set_in_a in omega (arith, clear_b, bit_at-lt b k)
                | inr clear_a ↦ omega (arith, bit_at-lt a k)
              ]
          | inr above ↦ omega (arith, bit_at_above a 52 k small above)
        ]

-- the word of one card
pub one_bit_below : (k : ℕ) → k < 52 → 1 * 2 ^ k % 2 ^ 64 < 2 ^ 52
one_bit_below k below =
    let short : 2 ^ k < 2 ^ 52 = pow_below k 52 below in
    let word : 1 * 2 ^ k < 2 ^ 64 = omega arith in
    subst (λ n. n < 2 ^ 52) (sym (mod-eq_of_lt word)) (omega arith)

-- the sum of the weights of the cards of a set is a word that has their bits and no others
weights : Cards → ℕ → ℕ
weights cards zero = 0
weights cards (suc n) = cond (set.contains cards (card_at n)) 1 0 * 2 ^ n + weights cards n

flag_below : (b : Bool) → cond b 1 0 < 2
flag_below true = omega arith
flag_below false = omega arith

weights-below : (cards : Cards) (n : ℕ) → weights cards n < 2 ^ n
unfolding weights
weights-below cards zero = omega arith
weights-below cards (suc n) =
    subst (λ m. cond (set.contains cards (card_at n)) 1 0 * 2 ^ n + weights cards n < m)
    (mul_comm 2 (2 ^ n) ∙ sym (pow-suc 2 n))
    (digits_lt (flag_below (set.contains cards (card_at n))) (weights-below cards n))

bit_at-weights : (cards : Cards) (n k : ℕ) → k < n → bit_at (weights cards n) k ≡ cond (set.contains cards (card_at k))
    1 0
unfolding weights
bit_at-weights cards zero k below = absurd (omega arith)
bit_at-weights cards (suc n) k below =
    let word = cond (set.contains cards (card_at n)) 1 0 * 2 ^ n + weights cards n in
    elim (cases_eq k n) [
      | inl top ↦
          ap (bit_at word) top
          ∙ bit_at_cat_high (cond (set.contains cards (card_at n)) 1 0) n (weights cards n) n (weights-below cards n)
          (omega arith)
          ∙ ap (bit_at (cond (set.contains cards (card_at n)) 1 0)) (nothing n)
          ∙ bit_at_lowest (cond (set.contains cards (card_at n)) 1 0)
          ∙ mod-eq_of_lt (flag_below (set.contains cards (card_at n)))
          ∙ sym (ap (λ m. cond (set.contains cards (card_at m)) 1 0) top)
      | inr under ↦
          bit_at_cat_low (cond (set.contains cards (card_at n)) 1 0) n (weights cards n) k (omega arith)
          ∙ bit_at-weights cards n k (omega arith)
    ]
  where
    nothing : (n : ℕ) → n - n ≡ 0
    nothing n = omega arith

flag_weight : (b : Bool) (w : ℕ) → cond b w 0 ≡ cond b 1 0 * w
flag_weight true w = omega arith
flag_weight false w = omega arith

flag_test : (b : Bool) → nat_eq (cond b 1 0) 1 ≡ b
flag_test true = refl
flag_test false = refl

sum_of_weights : (cards : Cards) (n : ℕ) → sum_by (λ x. x) (map (λ k. cond (set.contains cards (card_at k)) (2 ^ k) 0)
    (range_with_len 0 n)) ≡ weights cards n
unfolding weights
sum_of_weights cards zero = refl
sum_of_weights cards (suc n) =
    ap (λ m. sum_by (λ x. x) (map (λ k. cond (set.contains cards (card_at k)) (2 ^ k) 0) (range_with_len 0 m)))
    (sym (add-one n))
    ∙ sum_by-map-range_with_len_more (λ x. x) (λ k. cond (set.contains cards (card_at k)) (2 ^ k) 0) 0 n n (omega arith)
    ∙ (λ i. sum_of_weights cards n i + flag_weight (set.contains cards (card_at n)) (2 ^ n) i)
    ∙ add_comm _ _

bits_of_cards-weights : (cards : Cards) → bits_of_cards cards ≡ weights cards 52
unfolding bits_of_cards card_at pack
bits_of_cards-weights cards = sum_of_weights cards 52

-- every set of cards is that of its word
pub cards_of_bits-bits_of_cards : (cards : Cards) → cards_of_bits (bits_of_cards cards) ≡ cards
cards_of_bits-bits_of_cards cards = same_cards _ _ (λ card.
    contains-cards_of_bits _ card
    ∙ ap (λ n. nat_eq (bit_at n (number_in_pack card)) 1) (bits_of_cards-weights cards)
    ∙ ap (λ n. nat_eq n 1) (bit_at-weights cards 52 (number_in_pack card) (number_below card))
    ∙ flag_test (set.contains cards (card_at (number_in_pack card)))
    ∙ ap (set.contains cards) (card_at-number card))

-- two sets are found the same exactly where they are equal
pub are_same_decides : (a b : Cards) → Decides (are_same a b) (a ≡ b)
are_same_decides a b = (
  λ same. sym (cards_of_bits-bits_of_cards a) ∙ ap cards_of_bits (eqb-true _ _ same) ∙ cards_of_bits-bits_of_cards b,
  λ equal. eq-eqb _ _ (ap bits_of_cards equal),
)
