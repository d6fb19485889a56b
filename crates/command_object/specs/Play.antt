-- The cards of a board as a message has them: a list of texts such as `SA`.
use Rattle.std.specs.Prelude.{
  ◌≡◌,
  ℕ,
  ◌≤◌,
  List,
  [],
  ◌∷◌,
  length,
  ◌==◌,
  nat_le,
  if◌then◌else◌,
  codes,
  Option,
  Some,
  None,
  option_and_then,
}
use Rattle.std.specs.List.{find}
use Rattle.serde_json.specs.Data.{Data, Items}
use Rattle.serde_json.specs.Find.{as_str, as_array}
use Rattle.table_terms.specs.declared.suit.Suit.{Suit}
use Rattle.cards.specs.declared.rank.Rank.{Rank}
use Rattle.cards.specs.declared.card.Card.{Card}
use Rattle.cards.specs.Card.{card_text}
use Rattle.table_terms.specs.Suit.{suits, suit_letter}
use Rattle.cards.specs.Rank.{ranks_up, rank_letter}
use Rattle.json_fields.specs.Form.{Member, item_count, each, AreEach}

-- the suit whose letter it is
abbrev pub suit_named : ℕ → Option Suit
suit_named letter = find (λ suit. suit_letter suit == letter) suits

-- the rank whose letter or digit it is
abbrev pub rank_named : ℕ → Option Rank
rank_named letter = find (λ rank. rank_letter rank == letter) ranks_up

-- the card of a suit and a rank that were found
abbrev pub card_by : Option Suit → Option Rank → Option Card
card_by None rank = None
card_by (Some suit) None = None
card_by (Some suit) (Some rank) = Some (record { suit = suit; rank = rank })

-- the card of a text: a suit's letter and a rank's
abbrev pub card_named : List ℕ → Option Card
card_named [] = None
card_named (suit ∷ []) = None
card_named (suit ∷ rank ∷ []) = card_by (suit_named suit) (rank_named rank)
card_named (suit ∷ rank ∷ other ∷ rest) = None

-- the card that stands there
unfoldable pub card_of : Data → Option Card
card_of d = option_and_then card_named (as_str d)

-- a card for each element
abbrev pub cards_of_items : Items → Option (List Card)
cards_of_items ds = each card_of ds

-- at most the 52 cards of the pack
abbrev pub cards_by : Option Items → Option (List Card)
cards_by None = None
cards_by (Some ds) = if nat_le (item_count ds) 52 then cards_of_items ds else None

-- none where nothing stands there
unfoldable pub play_by : Option Data → Option (List Card)
play_by None = Some []
play_by (Some d) = cards_by (as_array d)

-- the text of the card
abbrev pub IsCard : Data → Card → Type 0
IsCard d card = as_str d ≡ Some (card_text card)

-- a list of at most 52 cards, or nothing where no card was noted
abbrev pub IsPlay : Option Data → List Card → Type 0
IsPlay None cards = cards ≡ []
IsPlay (Some d) cards =
    (elements : Items) × (as_array d ≡ Some elements) × AreEach IsCard elements cards × (length cards ≤ 52)

-- the cards as they were played: none, where it is left out
abbrev pub play : Member (List Card)
play = record { name = codes "play"; value = play_by; Is = IsPlay }
