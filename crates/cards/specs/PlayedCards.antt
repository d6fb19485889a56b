-- The cards of a board as they were played.
use Rattle.std.specs.Prelude.{Bool, true, false, ◌||◌, nat_eq, List, [], ◌∷◌}
use Rattle.std.specs.List.{list_any}
use Rattle.cards.specs.declared.card.Card.{Card}
use Rattle.cards.specs.Card.{number_in_pack}

-- whether some card was noted
abbrev pub has_card : List Card → Bool
has_card [] = false
has_card (card ∷ cards) = true

-- whether two cards are one
abbrev pub same_card : Card → Card → Bool
same_card a b = nat_eq (number_in_pack a) (number_in_pack b)

-- whether some card stands twice
abbrev pub has_repeat : List Card → Bool
has_repeat [] = false
has_repeat (card ∷ cards) = list_any (same_card card) cards || has_repeat cards
