-- A deal, by its four counts and its six pairs of hands.
use Rattle.std.proofs.Common.{◌≡◌, ◌≢◌, refl, sym, ◌∙◌}
use Rattle.std.proofs.lemmas.Bool.{true≢false, false_from_ne_true}
use Rattle.std.specs.FinSet as set
use Rattle.table_terms.specs.declared.place.Place.{Place}
use Rattle.table_terms.specs.declared.place.Place.TheVariants.{North, East, South, West}
use Rattle.cards.specs.Cards.{Cards, AreDisjoint}
use Rattle.cards.specs.Hands.{Hands, hand_of, IsDeal}
use Rattle.cards.specs.FourHands.{NoTwoShare}

-- disjoint sets are so in either order
disjoint_back : (a b : Cards) → AreDisjoint a b → AreDisjoint b a
disjoint_back a b apart card in_b = false_from_ne_true _ (λ in_a. true≢false (sym in_b ∙ apart card in_a))

pub apart_of : (hands : Hands) → NoTwoShare hands → (place other : Place) → place ≢ other →
    AreDisjoint (hand_of hands place) (hand_of hands other)
apart_of hands s North North ne = absurd (ne refl)
apart_of hands s North East ne = s.north_east
apart_of hands s North South ne = s.north_south
apart_of hands s North West ne = s.north_west
apart_of hands s East North ne = disjoint_back _ _ s.north_east
apart_of hands s East East ne = absurd (ne refl)
apart_of hands s East South ne = s.east_south
apart_of hands s East West ne = s.east_west
apart_of hands s South North ne = disjoint_back _ _ s.north_south
apart_of hands s South East ne = disjoint_back _ _ s.east_south
apart_of hands s South South ne = absurd (ne refl)
apart_of hands s South West ne = s.south_west
apart_of hands s West North ne = disjoint_back _ _ s.north_west
apart_of hands s West East ne = disjoint_back _ _ s.east_west
apart_of hands s West South ne = disjoint_back _ _ s.south_west
apart_of hands s West West ne = absurd (ne refl)

-- each hand has thirteen cards
abbrev pub HaveThirteen : Hands → Type 0
HaveThirteen hands = (set.len hands.north ≡ 13) × (set.len hands.east ≡ 13) × (set.len hands.south ≡ 13) ×
    (set.len hands.west ≡ 13)

thirteen_of : (hands : Hands) → HaveThirteen hands → (place : Place) → set.len (hand_of hands place) ≡ 13
thirteen_of hands h North = h.0
thirteen_of hands h East = h.1
thirteen_of hands h South = h.2
thirteen_of hands h West = h.3

pub deal_from_parts : (hands : Hands) → HaveThirteen hands → NoTwoShare hands → IsDeal hands
deal_from_parts hands h s = record { thirteen = thirteen_of hands h; apart = apart_of hands s }

pub counts_of_deal : (hands : Hands) → IsDeal hands → HaveThirteen hands
counts_of_deal hands deal = (deal.thirteen North, deal.thirteen East, deal.thirteen South, deal.thirteen West)

pub pairs_of_deal : (hands : Hands) → IsDeal hands → NoTwoShare hands
pairs_of_deal hands deal = record {
  north_east = deal.apart North East (λ e. cc);
  north_south = deal.apart North South (λ e. cc);
  north_west = deal.apart North West (λ e. cc);
  east_south = deal.apart East South (λ e. cc);
  east_west = deal.apart East West (λ e. cc);
  south_west = deal.apart South West (λ e. cc);
}
