-- The trick under way, as the list of its cards.
use Rattle.std.specs.Prelude.{◌≡◌, List, [], ◌∷◌, refl}
use Rattle.cards.specs.declared.card.Card.{Card}
use Rattle.cards.specs.declared.trick.Trick.{Trick}
use Rattle.cards.specs.declared.trick.Trick.TheVariants.{Empty, One, Two, Three}

-- the cards on the table, in the order in which they were played
abbrev pub cards_in : Trick → List Card
cards_in Empty = []
cards_in (One a) = a ∷ []
cards_in (Two a b) = a ∷ b ∷ []
cards_in (Three a b c) = a ∷ b ∷ c ∷ []

-- the trick of at most three cards that a list has
abbrev pub trick_of : List Card → Trick
trick_of [] = Empty
trick_of (a ∷ []) = One a
trick_of (a ∷ b ∷ []) = Two a b
trick_of (a ∷ b ∷ c ∷ _) = Three a b c

pub trick_of-cards_in : (trick : Trick) → trick_of (cards_in trick) ≡ trick
trick_of-cards_in Empty = refl
trick_of-cards_in (One a) = refl
trick_of-cards_in (Two a b) = refl
trick_of-cards_in (Three a b c) = refl
