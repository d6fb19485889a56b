-- The tricks of a position are bounded by its cards.
use Rattle.std.proofs.Common.{ap, ◌≡◌, ℕ, ◌+◌, ◌*◌, ◌<◌, ◌≤◌, false, List, [], ◌∷◌, map, length, refl, ◌∙◌, arith}
use Rattle.std.proofs.lemmas.Bool.{lt-leb}
use Rattle.cards.specs.declared.card.Card.{Card}
use Rattle.table_terms.specs.declared.place.Place.{Place}
use Rattle.table_terms.specs.declared.place.Place.TheVariants.{North, East, South, West}
use Rattle.table_terms.specs.declared.strain.Strain.{Strain}
use Rattle.cards.specs.Cards.{Cards}
use Rattle.cards.specs.Hands.{Hands, IsDeal}
use Rattle.cards.specs.Play.{Position, cards_left, IsPosition, start}
use Rattle.double_dummy_laws.proofs.TakingLemmas.{tricks_bound, under_way_short}
use Rattle.cards.specs.DoubleDummy.{double_dummy}
use Rattle.double_dummy_laws.specs.Found.{IsFound}
use Rattle.double_dummy_laws.specs.Renaming.{ArePlayed, Ownership, renamed}

length_map : (name : Card → Card) (cards : List Card) → length (map name cards) ≡ length cards
length_map name [] = refl
length_map name (card ∷ cards) = omega (arith, length_map name cards)

short_trick : (ownership : Ownership) (leader : Place) (table : List Card) → ArePlayed ownership leader table →
    length table ≤ 3
short_trick ownership leader [] of_table = omega arith
short_trick ownership leader (a ∷ []) of_table = omega arith
short_trick ownership leader (a ∷ b ∷ []) of_table = omega arith
short_trick ownership leader (a ∷ b ∷ c ∷ []) of_table = omega arith
short_trick ownership leader (a ∷ b ∷ c ∷ d ∷ rest) none = absurd none

-- more tricks than are left are not taken
pub too_many : (p : Position) (target : ℕ) (known : Cards) → cards_left p + length p.table < 4 * target →
    IsFound p target known false
too_many p target known many ownership owned tight_p name hands renaming named =
    let same = length_map name p.table in
    let short = short_trick ownership p.leader p.table owned.on_table in
    let bound = tricks_bound (cards_left p) (renamed name p hands) (omega arith) in
    lt-leb target _ (omega arith)

-- no more tricks are taken than are left
pub position_bound : (p : Position) (left : ℕ) → IsPosition p → 4 * left ≡ cards_left p + length p.table →
    double_dummy p ≤ left
position_bound p left valid quarter =
    omega (arith, tricks_bound (cards_left p) p (under_way_short p.hands p.table valid.trick))

-- a deal has 52 cards
pub deal_cards : (p : Position) (deal : Hands) (strain : Strain) (declarer : Place) → p ≡ start deal strain declarer →
    IsDeal deal → cards_left p ≡ 52
deal_cards p deal strain declarer begins is =
    ap cards_left begins ∙ omega (arith, is.thirteen North, is.thirteen East, is.thirteen South, is.thirteen West)
