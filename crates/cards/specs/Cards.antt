-- Sets of cards: what a player holds.
use Rattle.std.specs.Prelude.{◌≡◌, ℕ, ◌^◌, Bool, true, false, nat_eq, filter, sum_by, if◌then◌else◌}
use Rattle.std.specs.FinSet as set
use Rattle.std.specs.Int.{bit_at}
use Rattle.cards.specs.declared.card.Card.{Card}
use Rattle.cards.specs.Card.{card_cmp, pack, number_in_pack}

-- a set of cards
abbrev pub Cards : Type 0
Cards = set.FinSet card_cmp

-- whether the card's bit is set
abbrev pub has_card_bit : ℕ → Card → Bool
has_card_bit bits card = nat_eq (bit_at bits (number_in_pack card)) 1

-- the cards whose bits are set
unfoldable pub cards_of_bits : ℕ → Cards
cards_of_bits bits = set.from_list (filter (has_card_bit bits) pack)

-- the number in which just the bits of these cards are set
unfoldable pub bits_of_cards : Cards → ℕ
bits_of_cards cards = sum_by (λ card. if set.contains cards card then 2 ^ number_in_pack card else 0) pack

-- whether two sets have the same cards
abbrev pub are_same : Cards → Cards → Bool
are_same a b = nat_eq (bits_of_cards a) (bits_of_cards b)

-- no card is in both
abbrev pub AreDisjoint : Cards → Cards → Type 0
AreDisjoint a b = (card : Card) → set.contains a card ≡ true → set.contains b card ≡ false
