-- Double dummy: how many tricks a side takes when all four players play their best with all cards seen.
use Rattle.std.specs.Prelude.{ℕ, ◌+◌, ◌-◌, zero, suc, max, min, List, [], ◌∷◌, map, Option, Some, None, if◌then◌else◌}
use Rattle.std.specs.FinSet as set
use Rattle.cards.specs.declared.card.Card.{Card}
use Rattle.table_terms.specs.declared.place.Place.{Place}
use Rattle.table_terms.specs.declared.side.Side.{Side}
use Rattle.table_terms.specs.declared.side.Side.TheVariants.{NorthSouth, EastWest}
use Rattle.table_terms.specs.declared.strain.Strain.{Strain}
use Rattle.table_terms.specs.Place.{side_of}
use Rattle.cards.specs.Hands.{Hands}
use Rattle.cards.specs.Play.{Position, start, to_play, legal, after, point, cards_left}

-- of two numbers of tricks for North and South, the one that a side would rather have
abbrev pub better : Side → ℕ → ℕ → ℕ
better NorthSouth a b = max a b
better EastWest a b = min a b

-- the best of a list of such numbers for a side
abbrev pub best : Side → List ℕ → ℕ
best side [] = 0
best side (x ∷ []) = x
best side (x ∷ y ∷ rest) = better side x (best side (y ∷ rest))

-- the tricks that North and South take from a position with so many cards left in the hands: the best, for the side to
-- play, over its legal cards, of the trick that the card completes and of what follows it
unfoldable pub tricks : ℕ → Position → ℕ
tricks zero position = 0
tricks (suc left) position =
    best (side_of (to_play position))
    (map (λ card. point position card + tricks left (after position card)) (set.items (legal position)))

-- the tricks that North and South take from a position
abbrev pub double_dummy : Position → ℕ
double_dummy position = tricks (cards_left position) position

-- the tricks that they take from it with a card: the one that it completes, and what follows it
abbrev pub worth : Position → Card → ℕ
worth position card = point position card + double_dummy (after position card)

-- the tricks of a declarer's side, where North and South take so many of thirteen
abbrev pub tricks_for : Side → ℕ → ℕ
tricks_for NorthSouth tricks = tricks
tricks_for EastWest tricks = 13 - tricks

-- the tricks that declarer's side takes in a strain, from the opening lead
abbrev pub declarer_tricks : Hands → Strain → Place → ℕ
declarer_tricks hands strain declarer = tricks_for (side_of declarer) (double_dummy (start hands strain declarer))

-- how many tricks a side loses where North and South take the second number in place of the first
abbrev pub loss : Side → ℕ → ℕ → ℕ
loss NorthSouth before after = before - after
loss EastWest before after = after - before

-- the tricks that a card costs the side that plays it
abbrev pub cost : Position → Card → ℕ
cost position card = loss (side_of (to_play position)) (double_dummy position) (worth position card)

-- what each card of a play costs
abbrev pub cost_list : Position → List Card → List ℕ
cost_list position [] = []
cost_list position (card ∷ play) = cost position card ∷ cost_list (after position card) play

-- the number of the first card of a play that is not legal, where its first card has this number
abbrev pub first_illegal : ℕ → Position → List Card → Option ℕ
first_illegal number position [] = None
first_illegal number position (card ∷ play) =
    if set.contains (legal position) card then first_illegal (suc number) (after position card) play else Some number
