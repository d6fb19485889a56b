-- A position whose cards get other names is worth the same.
use Rattle.std.proofs.Common.{◌≡◌, ℕ, ◌+◌, true, List, [], ◌∷◌, map, refl, sym, ap, ◌∙◌, inl, inr, zero, suc}
use Rattle.std.specs.Prelude.{nat_eq, ◌||◌}
use Rattle.cards.specs.declared.card.Card.{Card}
use Rattle.table_terms.specs.declared.place.Place.{Place}
use Rattle.table_terms.specs.declared.strain.Strain.{Strain}
use Rattle.table_terms.specs.Suit.{suit_number}
use Rattle.table_terms.specs.Place.{left_of, side_of}
use Rattle.cards.specs.Hands.{Hands, hand_of}
use Rattle.std.specs.FinSet as set
use Rattle.cards.specs.Play.{
  Position,
  after,
  is_of,
  leader_after,
  legal,
  legal_of,
  point,
  point_of,
  table_after,
  to_play,
  trick_for,
  turn,
  without,
}
use Rattle.double_dummy_laws.proofs.BestLemmas.{same_best}
use Rattle.double_dummy_laws.proofs.HandLemmas.{
  among_items,
  follows_legal,
  has_without,
  items_among,
  legal_follows,
  without_had,
}
use Rattle.double_dummy_laws.proofs.WinnerLemmas.{winner_stays}
use Rattle.cards.specs.DoubleDummy.{best, tricks}
use Rattle.double_dummy_laws.specs.Renaming.{
  AllKnown,
  ArePlayed,
  HasNames,
  IsLiveCardOf,
  IsRenaming,
  Ownership,
  renamed,
}
use Rattle.double_dummy_laws.specs.Known.{IsKnown, IsSettled}

-- the tricks of North and South with a card, with so many cards left in the hands after it
abbrev pub worth_in : ℕ → Position → Card → ℕ
worth_in left position card = point position card + tricks left (after position card)

pub turn_named : (name : Card → Card) (leader : Place) (table : List Card) →
    turn leader (map name table) ≡ turn leader table
turn_named name leader [] = refl
turn_named name leader (card ∷ table) = turn_named name (left_of leader) table

-- a card does the same under its other name
pub record IsAfterNamed (ownership : Ownership) (name : Card →
    Card) (strain : Strain) (lead : Place) (cards : List Card) (card : Card) : Type 0 where
  pub table : table_after (map name cards) (name card) ≡ map name (table_after cards card)
  pub leader : leader_after strain lead (map name cards) (name card) ≡ leader_after strain lead cards card
  pub point : point_of strain lead (map name cards) (name card) ≡ point_of strain lead cards card
  pub played : ArePlayed ownership (leader_after strain lead cards card) (table_after cards card)

module _ (ownership : Ownership) (name : Card → Card) (renaming : IsRenaming ownership name) where
  -- what is left of the hands without a card
  pub names_without : (hands others : Hands) (place : Place) (card : Card) → HasNames ownership name hands others →
      set.contains (hand_of hands place) card ≡ true →
      HasNames ownership name (without hands card) (without others (name card))
  names_without hands others place card named held = record {
    into = λ at other in'.
        let had = without_had hands card other at in' in
        has_without others (name card) (name other) at (named.into at other had.0)
        (λ e. had.1 (renaming.apart other card (named.live at other had.0).0 (named.live place card held).0 e));
    onto = λ at other in'.
        let had = without_had others (name card) other at in' in
        let old = named.onto at other had.0 in
        (old.0, has_without hands card old.0 at old.1 (λ e. had.1 (sym old.2 ∙ ap name e)), old.2);
    live = λ at other in'. named.live at other (without_had hands card other at in').0;
  }

  -- the card that was led is live
  led_live : (leader : Place) (led : Card) (table : List Card) → ArePlayed ownership leader (led ∷ table) →
      ownership.is_live led ≡ true
  led_live leader led [] of_led = of_led.0
  led_live leader led (b ∷ []) of_all = of_all.0.0
  led_live leader led (b ∷ c ∷ []) of_all = of_all.0.0
  led_live leader led (b ∷ c ∷ d ∷ rest) none = absurd none

  same_of : (led card : Card) → ownership.is_live led ≡ true → ownership.is_live card ≡ true →
      is_of (name led).suit (name card) ≡ is_of led.suit card
  same_of led card live_led live_card i =
      nat_eq (suit_number (renaming.suit led live_led i)) (suit_number (renaming.suit card live_card i))

  -- what may be played
  pub legal_named : (hands others : Hands) (place leader : Place) (table : List Card) (card : Card) →
      HasNames ownership name hands others → ArePlayed ownership leader table →
      set.contains (legal_of (hand_of hands place) table) card ≡ true →
      set.contains (legal_of (hand_of others place) (map name table)) (name card) ≡ true
  legal_named hands others place leader [] card named played may = named.into place card may
  legal_named hands others place leader (led ∷ table) card named played may =
      let of_card = legal_follows (hand_of hands place) (led ∷ table) card may in
      let live_led = led_live leader led table played in
      follows_legal (hand_of others place) (name led ∷ map name table) (name card) (named.into place card of_card.0)
      (elim of_card.1 [
        | inl same ↦ inl (same_of led card live_led (named.live place card of_card.0).0 ∙ same)
        | inr none ↦ inr (λ other held.
            let old = named.onto place other held in
            ap (is_of (name led).suit) (sym old.2) ∙ same_of led old.0 live_led (named.live place old.0 old.1).0
            ∙ none old.0 old.1)
      ])

  pub legal_old : (hands others : Hands) (place leader : Place) (table : List Card) (card : Card) →
      HasNames ownership name hands others → ArePlayed ownership leader table →
      set.contains (legal_of (hand_of others place) (map name table)) card ≡ true →
      (old : Card) × (set.contains (legal_of (hand_of hands place) table) old ≡ true) × (name old ≡ card)
  legal_old hands others place leader [] card named played may = named.onto place card may
  legal_old hands others place leader (led ∷ table) card named played may =
      let of_card = legal_follows (hand_of others place) (name led ∷ map name table) card may in
      let live_led = led_live leader led table played in
      let old = named.onto place card of_card.0 in (
        old.0,
        follows_legal (hand_of hands place) (led ∷ table) old.0 old.1
            (elim of_card.1 [
              | inl same ↦ inl (sym (same_of led old.0 live_led (named.live place old.0 old.1).0)
                  ∙ ap (is_of (name led).suit) old.2 ∙ same)
              | inr none ↦ inr (λ other held.
                  sym (same_of led other live_led (named.live place other held).0)
                  ∙ none (name other) (named.into place other held))
            ]),
        old.2,
      )

  -- what a card does
  pub after_named : (strain : Strain) (leader : Place) (table : List Card) (card : Card) →
      ArePlayed ownership leader table →
      IsLiveCardOf ownership (turn leader table) card → IsKnown ownership strain table card →
      IsAfterNamed ownership name strain leader table card
  after_named strain leader [] card of_table of_card known =
      record { table = refl; leader = refl; point = refl; played = of_card }
  after_named strain leader (a ∷ []) card of_table of_card known =
      record { table = refl; leader = refl; point = refl; played = (of_table, of_card) }
  after_named strain leader (a ∷ b ∷ []) card of_table of_card known =
      record { table = refl; leader = refl; point = refl; played = (of_table.0, (of_table.1, of_card)) }
  after_named strain leader (a ∷ b ∷ c ∷ []) card of_table of_card known =
      let wins = winner_stays ownership name strain leader a b c card renaming (record {
        first = of_table.0;
        second =
            of_table.1.0;
        third = of_table.1.1;
        fourth = of_card;
      }) known in
      record { table = refl; leader = wins; point = ap (λ place. trick_for (side_of place)) wins; played = tt }
  after_named strain leader (a ∷ b ∷ c ∷ d ∷ rest) card none of_card known = absurd none

all_settled : (ownership : Ownership) (top a b c : Card) → AllKnown ownership → IsSettled ownership top a b c
all_settled ownership top a b c all = record { first = λ _. either a; second = λ _. either b; third = λ _. either c }
  where
    either : (card : Card) → (ownership.is_known card || ownership.is_known top) ≡ true
    either card = ap (λ k. k || ownership.is_known top) (all card)

pub all_known : (ownership : Ownership) (strain : Strain) (table : List Card) (card : Card) → AllKnown ownership →
    IsKnown ownership strain table card
all_known ownership strain [] card all = tt
all_known ownership strain (a ∷ []) card all = tt
all_known ownership strain (a ∷ b ∷ []) card all = tt
all_known ownership strain (a ∷ b ∷ c ∷ rest) d all = record {
  first = λ _. all_settled ownership a b c d all;
  second = λ _. all_settled ownership b a c d all;
  third = λ _. all_settled ownership c a b d all;
  fourth = λ _. all_settled ownership d a b c all;
}

-- what a card is worth under its other name
pub worth_renamed : (n : ℕ) (ownership : Ownership) (name : Card → Card) (p : Position) (hands : Hands) →
    IsRenaming ownership name →
    HasNames ownership name p.hands hands → ArePlayed ownership p.leader p.table → (card : Card) →
    set.contains (legal p) card ≡ true → IsKnown ownership p.strain p.table card →
    worth_in n (renamed name p hands) (name card)
    ≡ point p card + tricks n (renamed name (after p card) (without hands (name card)))
worth_renamed n ownership name p hands renaming named of_table card may known =
    let held = (legal_follows (hand_of p.hands (to_play p)) p.table card may).0 in
    let next = after_named ownership name renaming p.strain p.leader p.table card of_table
    (named.live (to_play p) card held) known in
    λ i. next.point i + tricks n (record {
      hands = without hands (name card);
      strain = p.strain;
      leader =
          next.leader i;
      table = next.table i;
    })

-- the table after a card
pub played_after : (ownership : Ownership) (p : Position) (card : Card) → ArePlayed ownership p.leader p.table →
    IsLiveCardOf ownership (to_play p) card → ArePlayed ownership (after p card).leader (after p card).table
played_after ownership p card of_table of_card = played p.strain p.leader p.table card of_table of_card
  where
    played : (strain : Strain) (leader : Place) (table : List Card) (card : Card) → ArePlayed ownership leader table →
        IsLiveCardOf ownership (turn leader table) card →
        ArePlayed ownership (leader_after strain leader table card) (table_after table card)
    played strain leader [] card of_table of_card = of_card
    played strain leader (a ∷ []) card of_table of_card = (of_table, of_card)
    played strain leader (a ∷ b ∷ []) card of_table of_card = (of_table.0, (of_table.1, of_card))
    played strain leader (a ∷ b ∷ c ∷ []) card of_table of_card = tt
    played strain leader (a ∷ b ∷ c ∷ d ∷ rest) card none of_card = absurd none

pub worth_named : (n : ℕ) (ownership : Ownership) (name : Card → Card) (p : Position) (hands : Hands) →
    IsRenaming ownership name → AllKnown ownership →
    HasNames ownership name p.hands hands → ArePlayed ownership p.leader p.table →
    ((q : Position) (others : Hands) → HasNames ownership name q.hands others → ArePlayed ownership q.leader q.table →
    tricks n (renamed name q others) ≡ tricks n q) →
    (card : Card) → set.contains (legal p) card ≡ true →
    worth_in n (renamed name p hands) (name card) ≡ worth_in n p card
worth_named n ownership name p hands renaming all named of_table rest card may =
    let held = (legal_follows (hand_of p.hands (to_play p)) p.table card may).0 in
    let same : tricks n (renamed name (after p card) (without hands (name card))) ≡ tricks n (after p card) =
    rest (after p card) (without hands (name card))
    (names_without ownership name renaming p.hands hands (to_play p) card named held)
    (played_after ownership p card of_table (named.live (to_play p) card held)) in
    worth_renamed n ownership name p hands renaming named of_table card may
    (all_known ownership p.strain p.table card all)
    ∙ ap (λ x. point p card + x) same

-- a position whose cards get other names is worth the same
pub renamed_tricks : (n : ℕ) (ownership : Ownership) (name : Card → Card) (p : Position) (hands : Hands) →
    IsRenaming ownership name → AllKnown ownership →
    HasNames ownership name p.hands hands → ArePlayed ownership p.leader p.table →
    tricks n (renamed name p hands) ≡ tricks n p
unfolding tricks
renamed_tricks zero ownership name p hands renaming all named of_table = refl
renamed_tricks (suc n) ownership name p hands renaming all named of_table =
    let same = worth_named n ownership name p hands renaming all named of_table
    (λ q others named' of_table'. renamed_tricks n ownership name q others renaming all named' of_table') in
    ap (λ place. best (side_of place)
    (map (worth_in n (renamed name p hands)) (set.items (legal_of (hand_of hands place) (map name p.table)))))
    (turn_named name p.leader p.table)
    ∙ same_best (side_of (to_play p)) (worth_in n p) (worth_in n (renamed name p hands)) (set.items (legal p))
    (set.items (legal_of (hand_of hands (to_play p)) (map name p.table)))
    (λ card among.
    let may = items_among (legal p) card among in (
      name card,
      among_items _ _ (legal_named ownership name renaming p.hands hands
          (to_play p) p.leader p.table card named of_table may),
      same card may,
    ))
    (λ card among.
    let old = legal_old ownership name renaming p.hands hands (to_play p) p.leader p.table card named of_table
    (items_among _ card among) in
    (old.0, among_items (legal p) old.0 old.1, sym (same old.0 old.1) ∙ ap (worth_in n (renamed name p hands)) old.2))
