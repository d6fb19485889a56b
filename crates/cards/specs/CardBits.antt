-- What a hand's model rests on: the word of a set of cards gives the word back.
use Rattle.std.proofs.Common.{
  ◌≡◌,
  ℕ,
  ◌+◌,
  ◌*◌,
  ◌^◌,
  ◌<◌,
  ◌%◌,
  Bool,
  true,
  false,
  cond,
  List,
  [],
  ◌∷◌,
  sum_by,
  map,
  get_or,
  refl,
  sym,
  ap,
  ◌∙◌,
  arith,
  zero,
  suc,
}
use Rattle.std.specs.Prelude.{nat_eq, filter, ◌||◌, ◌&&◌}
use Rattle.std.specs.List.{list_any, range_with_len}
use Rattle.std.specs.FinSet as set
use Rattle.std.specs.Cmp.{IsTotalOrder, nat_cmp_total, on_total, unsigned_tied}
use Rattle.std.specs.Ordering.{eq_by_cmp}
use Rattle.std.specs.Int.{bit_at}
use mir.Val.{bits}
use Rattle.std.proofs.lemmas.List.FromFn.{sum_by-map-range_with_len_more}
use Rattle.std.proofs.lemmas.Bool.{eqb-true}
use Rattle.std.proofs.lemmas.Nat.Bits.{bit_at-lt}
use Rattle.std.proofs.Math.Nat.{pow-suc, mod-eq_of_lt, mul_comm, add_comm}
use Rattle.std.proofs.Math.Numerals.{add-one}
use Rattle.std.proofs.Math.Arith.{mod-mul}
use Rattle.std.proofs.Math.Pow.{pow_pos}
use Rattle.table_terms.specs.declared.suit.Suit.{Suit}
use Rattle.table_terms.specs.declared.suit.Suit.TheVariants.{Spades, Hearts, Diamonds, Clubs}
use Rattle.table_terms.specs.Bits.{any_filter}
use Rattle.cards.specs.declared.rank.Rank.{Rank}
use Rattle.cards.specs.declared.rank.Rank.TheVariants.{
  Two,
  Three,
  Four,
  Five,
  Six,
  Seven,
  Eight,
  Nine,
  Ten,
  Jack,
  Queen,
  King,
  Ace,
}
use Rattle.cards.specs.declared.card.Card.{Card}
use Rattle.cards.specs.Card.{card_cmp, pack, number_in_pack}
use Rattle.cards.specs.Cards.{has_card_bit, cards_of_bits, bits_of_cards}

-- a fact about each rank, from one for every rank
pub each_rank : (P : Rank → Type 0) → P Two → P Three → P Four → P Five → P Six → P Seven → P Eight → P Nine → P Ten →
    P Jack → P Queen → P King → P Ace → (rank : Rank) → P rank
each_rank P a b c d e f g h i j k l m Two = a
each_rank P a b c d e f g h i j k l m Three = b
each_rank P a b c d e f g h i j k l m Four = c
each_rank P a b c d e f g h i j k l m Five = d
each_rank P a b c d e f g h i j k l m Six = e
each_rank P a b c d e f g h i j k l m Seven = f
each_rank P a b c d e f g h i j k l m Eight = g
each_rank P a b c d e f g h i j k l m Nine = h
each_rank P a b c d e f g h i j k l m Ten = i
each_rank P a b c d e f g h i j k l m Jack = j
each_rank P a b c d e f g h i j k l m Queen = k
each_rank P a b c d e f g h i j k l m King = l
each_rank P a b c d e f g h i j k l m Ace = m

-- the card at a place of the pack
unfoldable pub card_at : ℕ → Card
card_at n = get_or pack n (record { suit = Spades; rank = Two })

-- every card stands in the pack at its number
card_at_suit : (suit : Suit) (rank : Rank) → card_at (number_in_pack (record { suit = suit; rank = rank })) ≡
    record { suit = suit; rank = rank }
unfolding card_at pack
card_at_suit Spades = each_rank (λ rank. get_or pack (number_in_pack (record { suit = Spades; rank = rank }))
    (record { suit = Spades; rank = Two }) ≡ record { suit = Spades; rank = rank }) refl refl refl refl refl refl refl
    refl refl refl refl refl refl
card_at_suit Hearts = each_rank (λ rank. get_or pack (number_in_pack (record { suit = Hearts; rank = rank }))
    (record { suit = Spades; rank = Two }) ≡ record { suit = Hearts; rank = rank }) refl refl refl refl refl refl refl
    refl refl refl refl refl refl
card_at_suit Diamonds = each_rank (λ rank. get_or pack (number_in_pack (record { suit = Diamonds; rank = rank }))
    (record { suit = Spades; rank = Two }) ≡ record { suit = Diamonds; rank = rank }) refl refl refl refl refl refl refl
    refl refl refl refl refl refl
card_at_suit Clubs = each_rank (λ rank. get_or pack (number_in_pack (record { suit = Clubs; rank = rank }))
    (record { suit = Spades; rank = Two }) ≡ record { suit = Clubs; rank = rank }) refl refl refl refl refl refl refl
    refl refl refl refl refl refl

pub card_at-number : (card : Card) → card_at (number_in_pack card) ≡ card
card_at-number card = card_at_suit card.suit card.rank

pub same_number : (a b : Card) → number_in_pack a ≡ number_in_pack b → a ≡ b
same_number a b e = sym (card_at-number a) ∙ ap card_at e ∙ card_at-number b

in_suit : (suit : Suit) (rank : Rank) → list_any (eq_by_cmp card_cmp (record { suit = suit; rank = rank })) pack ≡ true
unfolding pack
in_suit Spades = each_rank (λ rank. list_any (eq_by_cmp card_cmp (record { suit = Spades; rank = rank })) pack ≡ true)
    refl refl refl refl refl refl refl refl refl refl refl refl refl
in_suit Hearts = each_rank (λ rank. list_any (eq_by_cmp card_cmp (record { suit = Hearts; rank = rank })) pack ≡ true)
    refl refl refl refl refl refl refl refl refl refl refl refl refl
in_suit Diamonds = each_rank (λ rank. list_any (eq_by_cmp card_cmp (record { suit = Diamonds; rank = rank })) pack ≡
    true) refl refl refl refl refl refl refl refl refl refl refl refl refl
in_suit Clubs = each_rank (λ rank. list_any (eq_by_cmp card_cmp (record { suit = Clubs; rank = rank })) pack ≡ true)
    refl refl refl refl refl refl refl refl refl refl refl refl refl

-- every card is in the pack
pub in_pack : (card : Card) → list_any (eq_by_cmp card_cmp card) pack ≡ true
in_pack card = in_suit card.suit card.rank

-- the order of the pack is an order, and only a card ties with itself
pub card_cmp_total : IsTotalOrder card_cmp
card_cmp_total = on_total number_in_pack nat_cmp_total

pub tied_is_equal : (a b : Card) → eq_by_cmp card_cmp a b ≡ true → a ≡ b
tied_is_equal a b e = same_number a b (eqb-true _ _ (sym (unsigned_tied (number_in_pack a) (number_in_pack b)) ∙ e))

-- a card is in the set exactly where its bit is set
pub contains-cards_of_bits : (bits : ℕ) (card : Card) → set.contains (cards_of_bits bits) card ≡ has_card_bit bits card
unfolding cards_of_bits
contains-cards_of_bits bits card =
    set.contains-from_list card_cmp_total (filter (has_card_bit bits) pack) card
    ∙ any_filter (eq_by_cmp card_cmp card) (has_card_bit bits) card
    (λ x e. ap (has_card_bit bits) (sym (tied_is_equal card x e))) pack
    ∙ ap (λ b. b && has_card_bit bits card) (in_pack card)

-- a digit's weight, by a test and by a product
pub digit_weight : (x w : ℕ) → x < 2 → cond (nat_eq x 1) w 0 ≡ x * w
digit_weight zero w h = omega arith
digit_weight (suc zero) w h = omega arith
digit_weight (suc (suc x)) w h = absurd (omega arith)

-- one digit more of a remainder
next_digit : (n bits : ℕ) → bits % 2 ^ n + bit_at bits n * 2 ^ n ≡ bits % 2 ^ suc n
next_digit n bits =
    add_comm _ _ ∙ sym (mod-mul bits (omega arith) (pow_pos n)) ∙ ap (λ x. bits % x)
    (mul_comm 2 (2 ^ n) ∙ sym (pow-suc 2 n))

-- the bits below n, each with its weight, sum to the number's remainder
sum_of_bits : (n bits : ℕ) → sum_by (λ x. x) (map (λ k. bit_at bits k * 2 ^ k) (range_with_len 0 n)) ≡ bits % 2 ^ n
sum_of_bits zero bits = omega arith
sum_of_bits (suc n) bits =
    ap (λ m. sum_by (λ x. x) (map (λ k. bit_at bits k * 2 ^ k) (range_with_len 0 m))) (sym (add-one n))
    ∙ sum_by-map-range_with_len_more (λ x. x) (λ k. bit_at bits k * 2 ^ k) 0 n n (omega arith)
    ∙ ap (λ x. x + bit_at bits n * 2 ^ n) (sum_of_bits n bits)
    ∙ next_digit n bits

-- a number below 2 ^ 52 is given back by the set of its cards
pub bits_of_cards-cards_of_bits : (bits : ℕ) → bits < 2 ^ 52 → bits_of_cards (cards_of_bits bits) ≡ bits
unfolding bits_of_cards pack
bits_of_cards-cards_of_bits bits small =
    (λ i. sum_by (λ card. cond (contains-cards_of_bits bits card i) (2 ^ number_in_pack card) 0) pack)
    ∙ (λ i. sum_by (λ card. digit_weight (bit_at bits (number_in_pack card)) (2 ^ number_in_pack card)
    (bit_at-lt bits (number_in_pack card)) i) pack)
    ∙ sum_of_bits 52 bits
    ∙ mod-eq_of_lt small
