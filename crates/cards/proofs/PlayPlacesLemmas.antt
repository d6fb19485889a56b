-- A play's places, filled with cards.
use Rattle.std.proofs.Common.{
  ◌≡◌,
  ℕ,
  ◌+◌,
  ◌-◌,
  ◌≤◌,
  List,
  ◌++◌,
  length,
  drop,
  replicate,
  refl,
  ap,
  ◌∙◌,
  arith,
  length-append,
  length-drop,
}
use Rattle.std.proofs.Math.Seq.{drop-append_seam}
use Rattle.std.proofs.lemmas.List.{drop-replicate}
use Rattle.cards.specs.declared.card.Card.{Card}
use Rattle.cards.specs.PlayPlaces.{IsPlayInPlaces, no_card}

back_up : (n : ℕ) → n ≤ 52 → n + (52 - n) ≡ 52
back_up n h = omega arith

-- the places of no card
pub no_places : IsPlayInPlaces (record { cards = replicate 52 no_card; len = 0 })
no_places = record { places = refl; short = omega arith; rest = refl }

-- the places, once the cards stand in their front
pub places_filled : (front cards : List Card) → front ≡ cards → length cards ≤ 52 → IsPlayInPlaces
    (record { cards = front ++ drop (length cards) (replicate 52 no_card); len = length cards })
places_filled front cards is short = record {
  places =
      length-append front (drop (length cards) (replicate 52 no_card))
      ∙ ap (λ n. length front + n) (length-drop (length cards) (replicate 52 no_card))
      ∙ ap (λ cs. length cs + (52 - length cards)) is
      ∙ back_up (length cards) short;
  short = short;
  rest = ap (λ cs. drop (length cards) (cs ++ drop (length cards) (replicate 52 no_card))) is ∙ drop-append_seam cards
      (drop (length cards) (replicate 52 no_card)) ∙ drop-replicate (length cards) 52 no_card;
}
