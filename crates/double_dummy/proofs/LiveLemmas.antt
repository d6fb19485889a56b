-- The live cards: those in the hands and on the table, from card to card of a trick.
use Rattle.std.proofs.Common.{◌≡◌, ◌⊎◌, ◌∙◌, ap, sym, subst, true, inl, inr}
use Rattle.std.specs.List.{list_any}
use Rattle.std.specs.Prelude.{List, [], ◌∷◌}
use Rattle.std.specs.Ordering.{eq_by_cmp}
use Rattle.std.proofs.lemmas.Bool.{or_cases, or_left, or_right, true≢false}
use Rattle.cards.specs.Card.{card_cmp}
use Rattle.cards.specs.Cards.{Cards}
use Rattle.cards.specs.CardBits.{card_cmp_total, tied_is_equal}
use Rattle.cards.specs.Hands.{Hands, hand_of}
use Rattle.cards.specs.declared.card.Card.{Card}
use Rattle.table_terms.specs.declared.place.Place.{Place}
use Rattle.table_terms.specs.declared.place.Place.TheVariants.{North, East, South, West}
use Rattle.std.specs.FinSet as set
use Rattle.cards.specs.Play.{Position, after, legal, table_after, to_play}
use Rattle.cards.proofs.PlayLemmas.{legal_held}
use Rattle.double_dummy.specs.Search.{HasLive}
use Rattle.double_dummy_laws.proofs.HandLemmas.{without_had}
use Rattle.double_dummy_laws.specs.Neighbours.{IsInPlay}

in_left : (s t : Cards) (card : Card) → set.contains s card ≡ true → set.contains (set.union s t) card ≡ true
in_left s t card held = set.contains-union card_cmp_total s t card ∙ or_left _ _ held

in_right : (s t : Cards) (card : Card) → set.contains t card ≡ true → set.contains (set.union s t) card ≡ true
in_right s t card held = set.contains-union card_cmp_total s t card ∙ or_right _ _ held

held_by : (hands : Hands) (place : Place) (card : Card) → set.contains (hand_of hands place) card ≡ true →
    set.contains (set.union (set.union hands.north hands.east) (set.union hands.south hands.west)) card ≡ true
held_by hands North card held = in_left _ _ card (in_left _ _ card held)
held_by hands East card held = in_left _ _ card (in_right _ _ card held)
held_by hands South card held = in_right _ _ card (in_left _ _ card held)
held_by hands West card held = in_right _ _ card (in_right _ _ card held)

-- the cards of the four hands and those on the table
pub all_live : (p : Position) (on_table : Cards) →
    ((card : Card) → set.contains on_table card ≡ list_any (eq_by_cmp card_cmp card) p.table) →
    HasLive p (set.union (set.union (set.union p.hands.north p.hands.east) (set.union p.hands.south p.hands.west))
    on_table)
all_live p on_table says card in_play =
    elim in_play [
      | inl held ↦ in_left _ on_table card (held_by p.hands held.0 card held.1)
      | inr played ↦ in_right _ on_table card (says card ∙ played)
    ]

last_is : (card other : Card) → list_any (eq_by_cmp card_cmp other) (card ∷ []) ≡ true → other ≡ card
last_is card other on =
    elim (or_cases _ _ on) [
      | inl same ↦ tied_is_equal other card same
      | inr none ↦ absurd (true≢false (sym none))
    ]

-- what lies on the table lay there before, or is the card played
was_on_table : (table : List Card) (card other : Card) →
    list_any (eq_by_cmp card_cmp other) (table_after table card) ≡ true →
    (other ≡ card) ⊎ (list_any (eq_by_cmp card_cmp other) table ≡ true)
was_on_table [] card other on = inl (last_is card other on)
was_on_table (a ∷ []) card other on =
    elim (or_cases (eq_by_cmp card_cmp other a) _ on) [
      | inl first ↦ inr (or_left (eq_by_cmp card_cmp other a) _ first)
      | inr last ↦ inl (last_is card other last)
    ]
was_on_table (a ∷ b ∷ []) card other on =
    elim (or_cases (eq_by_cmp card_cmp other a) _ on) [
      | inl first ↦ inr (or_left (eq_by_cmp card_cmp other a) _ first)
      | inr rest ↦ elim (was_on_table (b ∷ []) card other rest) [
        | inl same ↦ inl same
        | inr second ↦ inr (or_right (eq_by_cmp card_cmp other a) _ second)
      ]
    ]
was_on_table (a ∷ b ∷ c ∷ table) card other on = absurd (true≢false (sym on))

-- a card that is played stays live, and no other becomes so
pub live_after : (p q : Position) (live : Cards) (card : Card) → q ≡ after p card →
    set.contains (legal p) card ≡ true → HasLive p live → HasLive q live
live_after p q live card q_is may has other in_play =
    elim (subst (λ r. IsInPlay r other) q_is in_play) [
      | inl held ↦ has other (inl (held.0, (without_had p.hands card other held.0 held.1).0))
      | inr played ↦ elim (was_on_table p.table card other played) [
        | inl same ↦ has other (inl (
          to_play p,
          ap (set.contains (hand_of p.hands (to_play p))) same
              ∙ legal_held (hand_of p.hands (to_play p)) p.table card may,
        ))
        | inr before ↦ has other (inr before)
      ]
    ]
