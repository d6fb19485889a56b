-- The cards of the pack (Law 1), and how one is written.
use Rattle.std.specs.Prelude.{ℕ, ◌+◌, ◌*◌, List, [], ◌∷◌, map}
use Rattle.std.specs.List.{flat_map}
use Rattle.std.specs.Ordering.{nat_cmp}
use Rattle.std.specs.declared.cmp.Ordering.{Ordering}
use Rattle.cards.specs.declared.card.Card.{Card}
use Rattle.table_terms.specs.Suit.{suits, suit_number, suit_letter}
use Rattle.cards.specs.Rank.{ranks_up, height, rank_letter}

-- the 52 cards, suit by suit, from the two to the ace
unfoldable pub pack : List Card
pack = flat_map (λ suit. map (λ rank. record { suit = suit; rank = rank }) ranks_up) suits

-- where a card stands in the pack, counted from 0
abbrev pub number_in_pack : Card → ℕ
number_in_pack card = 13 * suit_number card.suit + height card.rank

-- the order of the pack
abbrev pub card_cmp : Card → Card → Ordering
card_cmp a b = nat_cmp (number_in_pack a) (number_in_pack b)

-- a card is written as its suit's letter and its rank's: `SA`, `HT`
abbrev pub card_text : Card → List ℕ
card_text card = suit_letter card.suit ∷ rank_letter card.rank ∷ []
