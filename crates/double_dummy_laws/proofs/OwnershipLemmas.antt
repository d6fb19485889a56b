-- Who owns the cards of a position, and which of them are live.
use Rattle.std.proofs.Common.{◌≡◌, Bool, true, List, [], ◌∷◌, refl, sym, ap, ◌∙◌, inl, inr}
use Rattle.std.specs.Prelude.{◌||◌}
use Rattle.std.specs.List.{list_any}
use Rattle.std.specs.Ordering.{eq_by_cmp}
use Rattle.std.proofs.lemmas.Bool.{or_cases, or_left, or_right, true≢false}
use Rattle.cards.specs.declared.card.Card.{Card}
use Rattle.table_terms.specs.declared.place.Place.{Place}
use Rattle.table_terms.specs.declared.place.Place.TheVariants.{North, East, South, West}
use Rattle.cards.specs.Card.{card_cmp}
use Rattle.cards.specs.Cards.{Cards}
use Rattle.cards.specs.CardBits.{tied_is_equal}
use Rattle.cards.specs.Hands.{hand_of}
use Rattle.std.specs.FinSet as set
use Rattle.cards.specs.Play.{Position}
use Rattle.double_dummy_laws.proofs.HandLemmas.{tied}
use Rattle.double_dummy_laws.specs.Found.{IsOwned, IsTight}
use Rattle.double_dummy_laws.specs.Renaming.{ArePlayed, Ownership, knowing}
use Rattle.double_dummy_laws.proofs.EqualCardsLemmas.{IsWithin}

-- what is known does not touch who owns what
played_knowing : (ownership : Ownership) (known : Cards) (leader : Place) (table : List Card) →
    ArePlayed ownership leader table → ArePlayed (knowing ownership known) leader table
played_knowing ownership known leader [] of_table = tt
played_knowing ownership known leader (a ∷ []) of_table = of_table
played_knowing ownership known leader (a ∷ b ∷ []) of_table = of_table
played_knowing ownership known leader (a ∷ b ∷ c ∷ []) of_table = of_table
played_knowing ownership known leader (a ∷ b ∷ c ∷ d ∷ rest) none = none

pub owned_knowing : (ownership : Ownership) (known : Cards) (p : Position) → IsOwned ownership p →
    IsOwned (knowing ownership known) p
owned_knowing ownership known p owned =
    record { held = owned.held; on_table = played_knowing ownership known p.leader p.table owned.on_table }

-- the cards of a position
unfoldable pub is_in : Position → Card → Bool
is_in p card = (set.contains p.hands.north card || set.contains p.hands.east card) ||
    (set.contains p.hands.south card || set.contains p.hands.west card) || list_any (eq_by_cmp card_cmp card) p.table

-- the same owners, with just the cards of the position live
unfoldable pub tight : Ownership → Position → Ownership
tight ownership p = record { owner = ownership.owner; is_live = is_in p; is_known = ownership.is_known }

pub in_hand : (p : Position) (place : Place) (card : Card) → set.contains (hand_of p.hands place) card ≡ true →
    is_in p card ≡ true
unfolding is_in
in_hand p North card held = or_left _ _ (or_left _ _ (or_left _ _ held))
in_hand p East card held = or_left _ _ (or_left _ _ (or_right _ _ held))
in_hand p South card held = or_left _ _ (or_right _ _ (or_left _ _ held))
in_hand p West card held = or_left _ _ (or_right _ _ (or_right _ _ held))

on_table : (p : Position) (card : Card) → list_any (eq_by_cmp card_cmp card) p.table ≡ true → is_in p card ≡ true
unfolding is_in
on_table p card played = or_right _ _ played

-- the cards of a trick, one by one
played_each : (ownership more : Ownership) (leader : Place) (table : List Card) → (more.owner ≡ ownership.owner) →
    ((card : Card) → list_any (eq_by_cmp card_cmp card) table ≡ true → more.is_live card ≡ true) →
    ArePlayed ownership leader table → ArePlayed more leader table
played_each ownership more leader [] same each of_table = tt
played_each ownership more leader (a ∷ []) same each of_a =
    (each a (or_left _ _ (tied a a refl)), ap (λ owner. owner a) same ∙ of_a.1)
played_each ownership more leader (a ∷ b ∷ []) same each of_table = (
  (each a (or_left _ _ (tied a a refl)), ap (λ owner. owner a) same ∙ of_table.0.1),
  (each b (or_right _ _ (or_left _ _ (tied b b refl))), ap (λ owner. owner b) same ∙ of_table.1.1),
)
played_each ownership more leader (a ∷ b ∷ c ∷ []) same each of_table = (
  (each a (or_left _ _ (tied a a refl)), ap (λ owner. owner a) same ∙ of_table.0.1),
  (
    (each b (or_right _ _ (or_left _ _ (tied b b refl))), ap (λ owner. owner b) same ∙ of_table.1.0.1),
    (each c (or_right _ _ (or_right _ _ (or_left _ _ (tied c c refl)))), ap (λ owner. owner c) same ∙ of_table.1.1.1),
  ),
)
played_each ownership more leader (a ∷ b ∷ c ∷ d ∷ rest) same each none = none

live_on_table : (ownership : Ownership) (leader : Place) (table : List Card) (card : Card) →
    ArePlayed ownership leader table →
    list_any (eq_by_cmp card_cmp card) table ≡ true → ownership.is_live card ≡ true
live_on_table ownership leader [] card of_table played = absurd (true≢false (sym played))
live_on_table ownership leader (a ∷ []) card of_a played =
    elim (or_cases _ _ played) [
      | inl e ↦ ap ownership.is_live (tied_is_equal card a e)
          ∙ of_a.0
      | inr none ↦ absurd (true≢false (sym none))
    ]
live_on_table ownership leader (a ∷ b ∷ []) card of_table played =
    elim (or_cases _ _ played) [
      | inl e ↦ ap ownership.is_live (tied_is_equal card a e) ∙ of_table.0.0
      | inr more ↦ elim (or_cases _ _ more) [
        | inl e ↦ ap ownership.is_live (tied_is_equal card b e)
            ∙ of_table.1.0
        | inr none ↦ absurd (true≢false (sym none))
      ]
    ]
live_on_table ownership leader (a ∷ b ∷ c ∷ []) card of_table played =
    elim (or_cases _ _ played) [
      | inl e ↦ ap ownership.is_live (tied_is_equal card a e) ∙ of_table.0.0
      | inr more ↦ elim (or_cases _ _ more) [
        | inl e ↦ ap ownership.is_live (tied_is_equal card b e) ∙ of_table.1.0.0
        | inr last ↦ elim (or_cases _ _ last) [
          | inl e ↦ ap ownership.is_live (tied_is_equal card c e)
              ∙ of_table.1.1.0
          | inr none ↦ absurd (true≢false (sym none))
        ]
      ]
    ]
live_on_table ownership leader (a ∷ b ∷ c ∷ d ∷ rest) card none played = absurd none

pub owned_tight : (ownership : Ownership) (p : Position) → IsOwned ownership p → IsOwned (tight ownership p) p
unfolding tight
owned_tight ownership p owned = record {
  held = λ place card held. (in_hand p place card held, (owned.held place card held).1);
  on_table = played_each ownership (tight ownership p) p.leader p.table refl (on_table p) owned.on_table;
}

pub in_tight : (p : Position) (place : Place) (card : Card) → set.contains (hand_of p.hands place) card ≡ true →
    is_in p card ≡ true
in_tight p place card held = in_hand p place card held

pub tight_tight : (ownership : Ownership) (p : Position) → IsTight (tight ownership p) p
unfolding tight is_in
tight_tight ownership p card live =
    elim (or_cases _ _ live) [
      | inl held ↦ elim (or_cases _ _ held) [
        | inl some ↦ elim (or_cases _ _ some) [ inl here ↦ inl (North, here) | inr here ↦ inl (East, here) ]
        | inr some ↦ elim (or_cases _ _ some) [ inl here ↦ inl (South, here) | inr here ↦ inl (West, here) ]
      ]
      | inr played ↦ inr played
    ]

pub tight_within : (ownership : Ownership) (p : Position) (less more : Cards) → IsOwned ownership p →
    ((card : Card) → set.contains less card ≡ true → set.contains more card ≡ true) →
    IsWithin (knowing (tight ownership p) less) (knowing ownership more)
unfolding tight is_in
tight_within ownership p less more owned each = record {
  owner = λ _. refl;
  live = λ card live. elim (or_cases _ _ live) [
    | inl held ↦ elim (or_cases _ _ held) [
      | inl some ↦ elim (or_cases _ _ some)
          [ inl here ↦ (owned.held North card here).0 | inr here ↦ (owned.held East card here).0 ]
      | inr some ↦ elim (or_cases _ _ some)
          [ inl here ↦ (owned.held South card here).0 | inr here ↦ (owned.held West card here).0 ]
    ]
    | inr played ↦ live_on_table ownership p.leader p.table card owned.on_table played
  ];
  known = each;
}
