-- The word of two sets together.
use Rattle.std.proofs.Common.{◌≡◌, ℕ, zero, suc, ◌<◌, max, refl, sym, ap, ◌∙◌, arith}
use Rattle.std.specs.Prelude.{nat_eq, ◌||◌, bit_or}
use Rattle.std.specs.FinSet as set
use Rattle.std.specs.Int.{bit_at}
use Rattle.std.proofs.lemmas.Nat.Bits.{bit_at-lt, bit_at_or}
use Rattle.cards.specs.Card.{number_in_pack}
use Rattle.cards.specs.Cards.{cards_of_bits}
use Rattle.cards.specs.CardBits.{card_cmp_total, contains-cards_of_bits}
use Rattle.cards.proofs.CardBitsLemmas.{same_cards}

-- of two digits the greater is 1 where one of them is
greater_digit : (x y : ℕ) → x < 2 → y < 2 → nat_eq (max x y) 1 ≡ (nat_eq x 1 || nat_eq y 1)
greater_digit zero zero p q = refl
greater_digit zero (suc zero) p q = refl
greater_digit zero (suc (suc y)) p q = absurd (omega arith)
greater_digit (suc zero) zero p q = refl
greater_digit (suc zero) (suc zero) p q = refl
greater_digit (suc zero) (suc (suc y)) p q = absurd (omega arith)
greater_digit (suc (suc x)) y p q = absurd (omega arith)

-- the bits that are set in either word are the cards that are in either set
pub cards_of_bits-or : (a b : ℕ) → cards_of_bits (bit_or a b) ≡ set.union (cards_of_bits a) (cards_of_bits b)
cards_of_bits-or a b = same_cards _ _ (λ card.
    contains-cards_of_bits _ card
    ∙ ap (λ digit. nat_eq digit 1) (bit_at_or a b (number_in_pack card))
    ∙ greater_digit (bit_at a (number_in_pack card)) (bit_at b (number_in_pack card))
    (bit_at-lt a (number_in_pack card)) (bit_at-lt b (number_in_pack card))
    ∙ (λ i. sym (contains-cards_of_bits a card) i || sym (contains-cards_of_bits b card) i)
    ∙ sym (set.contains-union card_cmp_total (cards_of_bits a) (cards_of_bits b) card))
