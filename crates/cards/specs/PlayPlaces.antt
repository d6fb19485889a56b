-- A play in its 52 places.
use Rattle.std.specs.Prelude.{◌≡◌, ◌-◌, ◌≤◌, List, ◌++◌, length, take, drop, replicate}
use Rattle.std.proofs.Common.{sym, ap, subst, ◌∙◌, take-append-drop, length-take-le}
use Rattle.cards.specs.declared.card.Card.{Card}
use Rattle.table_terms.specs.declared.suit.Suit.TheVariants.{Spades}
use Rattle.cards.specs.declared.rank.Rank.TheVariants.{Two}
use Rattle.cards.specs.declared.play.Play.TheInside.{Inside}

-- what stands in a place that no card fills
abbrev pub no_card : Card
no_card = record { suit = Spades; rank = Two }

-- the cards fill the front of the 52 places
pub record IsPlayInPlaces (play : Inside) : Type 0 where
  pub places : length play.cards ≡ 52
  pub short : play.len ≤ 52
  pub rest : drop play.len play.cards ≡ replicate (52 - play.len) no_card

-- the cards
abbrev pub cards_of : Inside → List Card
cards_of play = take play.len play.cards

-- the places of so many cards
abbrev pub card_places : List Card → Inside
card_places cards = record { cards = cards ++ replicate (52 - length cards) no_card; len = length cards }

-- the cards give the places back
pub card_places-cards_of : (play : Inside) → IsPlayInPlaces play → card_places (cards_of play) ≡ play
card_places-cards_of play kept =
    let len = length-take-le play.len play.cards (subst (λ n. play.len ≤ n) (sym kept.places) kept.short) in
    let cards =
    ap (λ n. take play.len play.cards ++ replicate (52 - n) no_card) len
    ∙ ap (λ rest. take play.len play.cards ++ rest) (sym kept.rest)
    ∙ take-append-drop play.len play.cards in
    λ i. record { cards = cards i; len = len i }
