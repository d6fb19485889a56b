-- A player's trumps that are higher than every trump of the opponents take a trick each.
use Rattle.std.proofs.Common.{◌≡◌, ◌≢◌, ◌⊎◌, ℕ, ◌<◌, ◌≤◌, Bool, true, false, List, [], ◌∷◌, refl, sym, ap, ◌∙◌, subst, inl, inr, arith, zero, suc}
use Rattle.std.specs.Prelude.{Option}
use Rattle.std.proofs.lemmas.Bool.{and_from, and_left, cases_eq, cases_lt, cond-false, cond-true, le-leb, lt-leb, true≢false}
use Rattle.std.specs.FinSet as set
use Rattle.cards.specs.declared.card.Card.{Card}
use Rattle.cards.specs.Cards.{Cards}
use Rattle.cards.specs.Rank.{height}
use Rattle.table_terms.specs.declared.suit.Suit.{Suit}
use Rattle.table_terms.specs.declared.place.Place.{Place}
use Rattle.table_terms.specs.declared.place.Place.TheVariants.{North, East, South, West}
use Rattle.table_terms.specs.declared.strain.Strain.{Strain}
use Rattle.table_terms.specs.Place.{left_of, place_number, side_of}
use Rattle.table_terms.specs.Strain.{trump_of}
use Rattle.cards.specs.Hands.{Hands, hand_of}
use Rattle.cards.specs.Play.{IsApart, IsPosition, cards_left, is_of, is_trump, legal, strength, strength_by, strength_in, strongest, to_play, winner, without}
use Rattle.cards.proofs.PlayLemmas.{four_times, position_after, same_place}
use Rattle.double_dummy_laws.proofs.CountLemmas.{has_less}
use Rattle.double_dummy_laws.proofs.HandLemmas.{has_without, without_had}
use Rattle.double_dummy_laws.proofs.NeighbourLemmas.{one_less_after}
use Rattle.double_dummy_laws.proofs.TakingLemmas.{CardTakes, all_play, at, goes_on, held_by, in_both, one_plays, removed_had, some_left, some_of, takes_none, trick_over, trick_won}
use Rattle.double_dummy_laws.proofs.WinnerLemmas.{fourth_wins, height_below, third_wins, turns_1, turns_2, turns_3}
use Rattle.double_dummy_laws.specs.SureTricks.{AreBestTrumps, TakesAtLeast}

-- who sits where
pub partners : (place : Place) → side_of (left_of (left_of place)) ≡ side_of place
partners North = refl
partners East = refl
partners South = refl
partners West = refl

pub opponents : (place : Place) → side_of (left_of place) ≢ side_of place
opponents North e = cc
opponents East e = cc
opponents South e = cc
opponents West e = cc

pub opponent_cases : (place holder : Place) → side_of place ≢ side_of holder →
    (place ≡ left_of holder) ⊎ (place ≡ left_of (left_of (left_of holder)))
opponent_cases North North ne = absurd (ne refl)
opponent_cases North East ne = inr refl
opponent_cases North South ne = absurd (ne refl)
opponent_cases North West ne = inl refl
opponent_cases East North ne = inl refl
opponent_cases East East ne = absurd (ne refl)
opponent_cases East South ne = inr refl
opponent_cases East West ne = absurd (ne refl)
opponent_cases South North ne = absurd (ne refl)
opponent_cases South East ne = inl refl
opponent_cases South South ne = absurd (ne refl)
opponent_cases South West ne = inr refl
opponent_cases West North ne = inr refl
opponent_cases West East ne = absurd (ne refl)
opponent_cases West South ne = inl refl
opponent_cases West West ne = absurd (ne refl)

first_best : (leader : Place) (a b c d : ℕ) → b ≤ a → c ≤ a → d ≤ a → strongest leader a b c d ≡ leader
unfolding strongest
first_best leader a b c d second third last =
    cond-true _ _ _ (and_from _ _ (and_from _ _ (le-leb b a second) (le-leb c a third)) (le-leb d a last))

second_best : (leader : Place) (a b c d : ℕ) → a < b → c ≤ b → d ≤ b → strongest leader a b c d ≡ left_of leader
unfolding strongest
second_best leader a b c d first third last =
    cond-false _ _ _ (and_left _ _ (and_left _ _ (lt-leb b a first)))
    ∙ cond-true _ _ _ (and_from _ _ (le-leb c b third) (le-leb d b last))

-- who played the strongest card is of the side of a card that beats both of the other side's
pub side_of_first : (leader : Place) (a b c d : ℕ) → b < a → d < a → side_of (strongest leader a b c d) ≡ side_of leader
side_of_first leader a b c d first last =
    elim (cases_lt a c) [
      | inl h ↦ ap side_of (third_wins leader a b c d
          (record { first = h; second = omega arith; third = omega arith })) ∙ partners leader
      | inr h ↦ ap side_of (first_best leader a b c d (omega arith) h (omega arith))
    ]

pub side_of_third : (leader : Place) (a b c d : ℕ) → b < c → d < c → side_of (strongest leader a b c d) ≡ side_of leader
side_of_third leader a b c d first last =
    elim (cases_lt a c) [
      | inl h ↦ ap side_of (third_wins leader a b c d
          (record { first = h; second = first; third = last })) ∙ partners leader
      | inr h ↦ ap side_of (first_best leader a b c d (omega arith) h (omega arith))
    ]

pub side_of_second : (leader : Place) (a b c d : ℕ) → a < b → c < b →
    side_of (strongest leader a b c d) ≡ side_of (left_of leader)
side_of_second leader a b c d first third =
    elim (cases_lt b d) [
      | inl h ↦ ap side_of (fourth_wins leader a b c d
          (record { first = omega arith; second = h; third = omega arith })) ∙ partners (left_of leader)
      | inr h ↦ ap side_of (second_best leader a b c d first (omega arith) (omega arith))
    ]

pub side_of_fourth : (leader : Place) (a b c d : ℕ) → a < d → c < d →
    side_of (strongest leader a b c d) ≡ side_of (left_of leader)
side_of_fourth leader a b c d first third =
    elim (cases_lt b d) [
      | inl h ↦ ap side_of (fourth_wins leader a b c d
          (record { first = first; second = h; third = third })) ∙ partners (left_of leader)
      | inr h ↦ ap side_of (second_best leader a b c d (omega arith) (omega arith) (omega arith))
    ]

-- a trump beats what is no trump, and lower trumps
beats_by : (tx lx tc lc : Bool) (hx hc : ℕ) → hx < 13 → tc ≡ true → (tx ≡ true → hx < hc) →
    strength_by tx lx hx < strength_by tc lc hc
beats_by true lx true lc hx hc fits is lower = let less : hx < hc = lower refl in omega arith
beats_by false true true lc hx hc fits is lower = omega arith
beats_by false false true lc hx hc fits is lower = omega arith
beats_by tx lx false lc hx hc fits is lower = absurd (true≢false (sym is))

pub trump_beats : (trump : Option Suit) (led : Suit) (other card : Card) → is_trump trump card ≡ true →
    (is_trump trump other ≡ true → height other.rank < height card.rank) →
    strength trump led other < strength trump led card
trump_beats trump led other card is lower =
    beats_by (is_trump trump other) (is_of led other) (is_trump trump card) (is_of led card) (height other.rank)
    (height card.rank) (height_below other.rank) is lower

module _ (strain : Strain) (holder : Place) where
  -- the cards that are sure, in these hands
  abbrev Best : Hands → Cards → Type 0
  Best h w = AreBestTrumps (at h strain holder []) holder w

  -- no opponent holds a card that beats this one
  abbrev IsUnbeaten : Hands → Card → Card → Type 0
  IsUnbeaten h led card = (other : Card) (place : Place) → side_of place ≢ side_of holder →
      set.contains (hand_of h place) other ≡ true → strength_in strain led other < strength_in strain led card

  unbeaten_without : (h : Hands) (led card gone : Card) → IsUnbeaten h led card → IsUnbeaten (without h gone) led card
  unbeaten_without h led card gone is other place ne held = is other place ne (without_had h gone other place held).0

  best_without : (h : Hands) (w : Cards) (gone : Card) → (set.contains w gone ≡ true → ⊥) → Best h w →
      Best (without h gone) w
  best_without h w gone not_in best = record {
    held = λ c in'. has_without h gone c holder (best.held c in')
        (λ e. not_in (subst (λ x. set.contains w x ≡ true) e in'));
    trumps = best.trumps;
    higher = λ c other place in' ne there. best.higher c other place in' ne (without_had h gone other place there).0;
  }

  best_removed : (h : Hands) (w : Cards) (gone : Card) → Best h w → Best (without h gone) (set.remove w gone)
  best_removed h w gone best = record {
    held = λ c in'. let had = removed_had w gone c in' in has_without h gone c holder (best.held c had.0) had.1;
    trumps = λ c in'. best.trumps c (removed_had w gone c in').0;
    higher = λ c other place in' ne there.
        best.higher c other place (removed_had w gone c in').0 ne (without_had h gone other place there).0;
  }

  -- another player's card is none of them
  not_of : (h : Hands) (w : Cards) (card : Card) (place : Place) → IsApart h → Best h w →
      set.contains (hand_of h place) card ≡ true → place ≢ holder → set.contains w card ≡ true → ⊥
  not_of h w card place apart best held ne in' = ne (apart place holder card held (best.held card in'))

  -- what is so at the beginning of the next trick
  abbrev Next : Cards → ℕ → Type 0
  Next w bound = (h : Hands) (leader : Place) → IsPosition (at h strain leader []) →
      cards_left (at h strain leader []) < bound →
      Best h w → TakesAtLeast (side_of holder) (set.len w) (at h strain leader [])

  -- one of the cards was played to the trick under way: the rest of the trick
  module _ (w : Cards) where
    fourth_by : (h : Hands) (leader : Place) (a b c : Card) → IsPosition (at h strain leader (a ∷ b ∷ c ∷ [])) →
        0 < cards_left (at h strain leader (a ∷ b ∷ c ∷ [])) → Best h w →
        (left_of (left_of (left_of leader)) ≢ holder) →
        Next w (cards_left (at h strain leader (a ∷ b ∷ c ∷ []))) →
        ((d : Card) → set.contains (hand_of h (left_of (left_of (left_of leader)))) d ≡ true →
        side_of (winner strain leader a b c d) ≡ side_of holder) →
        TakesAtLeast (side_of holder) (suc (set.len w)) (at h strain leader (a ∷ b ∷ c ∷ []))
    fourth_by h leader a b c valid some best ne next wins =
        let p = at h strain leader (a ∷ b ∷ c ∷ []) in
        all_play (side_of holder) (suc (set.len w)) p valid some (λ d may.
        let held = held_by p d may in
        trick_won (side_of holder) (set.len w) h strain leader a b c d valid may (wins d held)
        (next (without h d) (winner strain leader a b c d) (position_after p d valid may)
        (omega (arith, one_less_after p d valid may))
        (best_without h w d (not_of h w d _ valid.apart best held ne) best)))

    -- the leader played it
    fourth_0 : (h : Hands) (leader : Place) (a b c : Card) → IsPosition (at h strain leader (a ∷ b ∷ c ∷ [])) →
        0 < cards_left (at h strain leader (a ∷ b ∷ c ∷ [])) → Best h w → leader ≡ holder →
        strength_in strain a b < strength_in strain a a → IsUnbeaten h a a →
        Next w (cards_left (at h strain leader (a ∷ b ∷ c ∷ []))) →
        TakesAtLeast (side_of holder) (suc (set.len w)) (at h strain leader (a ∷ b ∷ c ∷ []))
    fourth_0 h leader a b c valid some best is second unbeaten next =
        fourth_by h leader a b c valid some best (λ e. turns_3 leader (is ∙ sym e)) next
        (λ d held. side_of_first leader _ _ _ _ second
        (unbeaten d (left_of (left_of (left_of leader)))
        (λ e. opponents leader (sym (partners (left_of leader)) ∙ e ∙ ap side_of (sym is))) held)
        ∙ ap side_of is)

    -- the second hand played it
    fourth_1 : (h : Hands) (leader : Place) (a b c : Card) → IsPosition (at h strain leader (a ∷ b ∷ c ∷ [])) →
        0 < cards_left (at h strain leader (a ∷ b ∷ c ∷ [])) → Best h w → left_of leader ≡ holder →
        strength_in strain a a < strength_in strain a b → strength_in strain a c < strength_in strain a b →
        Next w (cards_left (at h strain leader (a ∷ b ∷ c ∷ []))) →
        TakesAtLeast (side_of holder) (suc (set.len w)) (at h strain leader (a ∷ b ∷ c ∷ []))
    fourth_1 h leader a b c valid some best is first third next =
        fourth_by h leader a b c valid some best (λ e. turns_2 (left_of leader) (is ∙ sym e)) next
        (λ d held. side_of_second leader _ _ _ _ first third ∙ ap side_of is)

    -- the third hand played it
    fourth_2 : (h : Hands) (leader : Place) (a b c : Card) → IsPosition (at h strain leader (a ∷ b ∷ c ∷ [])) →
        0 < cards_left (at h strain leader (a ∷ b ∷ c ∷ [])) → Best h w → left_of (left_of leader) ≡ holder →
        strength_in strain a b < strength_in strain a c → IsUnbeaten h a c →
        Next w (cards_left (at h strain leader (a ∷ b ∷ c ∷ []))) →
        TakesAtLeast (side_of holder) (suc (set.len w)) (at h strain leader (a ∷ b ∷ c ∷ []))
    fourth_2 h leader a b c valid some best is second unbeaten next =
        fourth_by h leader a b c valid some best (λ e. turns_1 (left_of (left_of leader)) (is ∙ sym e)) next
        (λ d held. side_of_third leader _ _ _ _ second
        (unbeaten d (left_of (left_of (left_of leader)))
        (λ e. opponents (left_of (left_of leader)) (e ∙ ap side_of (sym is))) held)
        ∙ sym (partners leader) ∙ ap side_of is)

    third_0 : (h : Hands) (leader : Place) (a b : Card) → IsPosition (at h strain leader (a ∷ b ∷ [])) →
        1 < cards_left (at h strain leader (a ∷ b ∷ [])) → Best h w → leader ≡ holder →
        strength_in strain a b < strength_in strain a a → IsUnbeaten h a a →
        Next w (cards_left (at h strain leader (a ∷ b ∷ []))) →
        TakesAtLeast (side_of holder) (suc (set.len w)) (at h strain leader (a ∷ b ∷ []))
    third_0 h leader a b valid some best is second unbeaten next =
        let p = at h strain leader (a ∷ b ∷ []) in
        all_play (side_of holder) (suc (set.len w)) p valid (omega arith) (λ c may.
        let held = held_by p c may in
        let less = one_less_after p c valid may in
        goes_on (side_of holder) (suc (set.len w)) p c valid may (omega arith)
        (fourth_0 (without h c) leader a b c (position_after p c valid may) (omega (arith, less, some))
        (best_without h w c (not_of h w c _ valid.apart best held (λ e. turns_2 leader (is ∙ sym e))) best)
        is second (unbeaten_without h a a c unbeaten)
        (λ g l valid' fewer. next g l valid' (omega (arith, less, fewer)))))

    third_1 : (h : Hands) (leader : Place) (a b : Card) → IsPosition (at h strain leader (a ∷ b ∷ [])) →
        1 < cards_left (at h strain leader (a ∷ b ∷ [])) → Best h w → left_of leader ≡ holder →
        strength_in strain a a < strength_in strain a b → IsUnbeaten h a b →
        Next w (cards_left (at h strain leader (a ∷ b ∷ []))) →
        TakesAtLeast (side_of holder) (suc (set.len w)) (at h strain leader (a ∷ b ∷ []))
    third_1 h leader a b valid some best is first unbeaten next =
        let p = at h strain leader (a ∷ b ∷ []) in
        all_play (side_of holder) (suc (set.len w)) p valid (omega arith) (λ c may.
        let held = held_by p c may in
        let less = one_less_after p c valid may in
        goes_on (side_of holder) (suc (set.len w)) p c valid may (omega arith)
        (fourth_1 (without h c) leader a b c (position_after p c valid may) (omega (arith, less, some))
        (best_without h w c (not_of h w c _ valid.apart best held (λ e. turns_1 (left_of leader) (is ∙ sym e))) best)
        is first (unbeaten c (left_of (left_of leader))
        (λ e. opponents (left_of leader) (e ∙ ap side_of (sym is))) held)
        (λ g l valid' fewer. next g l valid' (omega (arith, less, fewer)))))

    second_0 : (h : Hands) (leader : Place) (a : Card) → IsPosition (at h strain leader (a ∷ [])) →
        2 < cards_left (at h strain leader (a ∷ [])) → Best h w → leader ≡ holder → IsUnbeaten h a a →
        Next w (cards_left (at h strain leader (a ∷ []))) →
        TakesAtLeast (side_of holder) (suc (set.len w)) (at h strain leader (a ∷ []))
    second_0 h leader a valid some best is unbeaten next =
        let p = at h strain leader (a ∷ []) in
        all_play (side_of holder) (suc (set.len w)) p valid (omega arith) (λ b may.
        let held = held_by p b may in
        let less = one_less_after p b valid may in
        goes_on (side_of holder) (suc (set.len w)) p b valid may (omega arith)
        (third_0 (without h b) leader a b (position_after p b valid may) (omega (arith, less, some))
        (best_without h w b (not_of h w b _ valid.apart best held (λ e. turns_1 leader (is ∙ sym e))) best)
        is (unbeaten b (left_of leader) (λ e. opponents leader (e ∙ ap side_of (sym is))) held)
        (unbeaten_without h a a b unbeaten)
        (λ g l valid' fewer. next g l valid' (omega (arith, less, fewer)))))

  -- a trump of the opponents on the table is lower
  abbrev IsLower : Cards → Place → Card → Type 0
  IsLower w place other = side_of place ≢ side_of holder → (card : Card) → set.contains w card ≡ true →
      is_trump (trump_of strain) other ≡ true → height other.rank < height card.rank

  abbrev AreLower : Cards → Place → List Card → Type 0
  AreLower w leader [] = Unit {0}
  AreLower w leader (a ∷ []) = IsLower w leader a
  AreLower w leader (a ∷ b ∷ []) = IsLower w leader a × IsLower w (left_of leader) b
  AreLower w leader (a ∷ b ∷ c ∷ _) =
      IsLower w leader a × (IsLower w (left_of leader) b × IsLower w (left_of (left_of leader)) c)

  -- the holder plays one of the cards if one is legal, and else whatever is legal
  choose : (h : Hands) (leader : Place) (table : List Card) (w : Cards) → IsPosition (at h strain leader table) →
      Best h w →
      ((d : Card) → set.contains (legal (at h strain leader table)) d ≡ true → (set.contains w d ≡ true → ⊥) →
      CardTakes (side_of holder) (set.len w) (at h strain leader table) d) →
      ((c : Card) → to_play (at h strain leader table) ≡ holder → set.contains w c ≡ true →
      set.contains (legal (at h strain leader table)) c ≡ true →
      CardTakes (side_of holder) (suc (set.len (set.remove w c))) (at h strain leader table) c) →
      TakesAtLeast (side_of holder) (set.len w) (at h strain leader table)
  choose h leader table w valid best passes wins =
      let p = at h strain leader table in
      elim (cases_eq (set.len w) 0) [
        | inl none ↦ subst (λ k. TakesAtLeast (side_of holder) k p) (sym none) (takes_none (side_of holder) p valid)
        | inr some ↦
            let one = some_of w some in
            let left = some_left p holder one.0 (best.held one.0 one.1) in
            elim (cases_eq (place_number (to_play p)) (place_number holder)) [
              | inl same ↦
                  let turn = same_place (to_play p) holder same in
                  elim (in_both w (legal p)) [
                    | inl found ↦ one_plays (side_of holder) (set.len w) p found.0 valid found.2 (ap side_of turn)
                        (subst (λ k. CardTakes (side_of holder) k p found.0) (has_less w found.0 found.1)
                        (wins found.0 turn found.1 found.2))
                    | inr never ↦ all_play (side_of holder) (set.len w) p valid left
                        (λ d may. passes d may (λ in'. never d in' may))
                  ]
              | inr differ ↦ all_play (side_of holder) (set.len w) p valid left
                  (λ d may. passes d may
                  (not_of h w d (to_play p) valid.apart best (held_by p d may)
                  (λ e. differ (ap place_number e))))
            ]
      ]

  -- of the cards that the holder leads or plays
  unbeaten_by : (h : Hands) (w : Cards) (led card : Card) → Best h w → set.contains w card ≡ true →
      IsUnbeaten (without h card) led card
  unbeaten_by h w led card best in' other place ne held =
      trump_beats (trump_of strain) led.suit other card (best.trumps card in')
      (best.higher card other place in' ne (without_had h card other place held).0)

  beats_lower : (h : Hands) (w : Cards) (led other card : Card) (place : Place) → Best h w →
      set.contains w card ≡ true → side_of place ≢ side_of holder → IsLower w place other →
      strength_in strain led other < strength_in strain led card
  beats_lower h w led other card place best in' ne lower =
      trump_beats (trump_of strain) led.suit other card (best.trumps card in') (lower ne card in')

  lower_by : (h : Hands) (w : Cards) (d : Card) (place : Place) → Best h w →
      set.contains (hand_of h place) d ≡ true → IsLower w place d
  lower_by h w d place best held ne card in' = best.higher card d place in' ne held

  -- as many tricks as such cards, with at most so many cards left
  pub taken : (n : ℕ) (h : Hands) (leader : Place) (table : List Card) (w : Cards) →
      cards_left (at h strain leader table) ≤ n → IsPosition (at h strain leader table) → Best h w →
      AreLower w leader table → TakesAtLeast (side_of holder) (set.len w) (at h strain leader table)
  taken zero h leader table w few valid best lower =
      let p = at h strain leader table in
      elim (cases_eq (set.len w) 0) [
        | inl none ↦ subst (λ k. TakesAtLeast (side_of holder) k p) (sym none) (takes_none (side_of holder) p valid)
        | inr some ↦
            let one = some_of w some in
            absurd (omega (arith, few, some_left p holder one.0 (best.held one.0 one.1)))
      ]
  taken (suc n) h leader [] w few valid best lower =
      let p = at h strain leader [] in
      choose h leader [] w valid best
      (λ d may not_in.
      let less = one_less_after p d valid may in
      goes_on (side_of holder) (set.len w) p d valid may (omega arith)
      (taken n (without h d) leader (d ∷ []) w (omega (arith, few, less)) (position_after p d valid may)
      (best_without h w d not_in best) (lower_by h w d leader best (held_by p d may))))
      (λ c turn in' may.
      let less = one_less_after p c valid may in
      let four = four_times p valid in
      goes_on (side_of holder) (suc (set.len (set.remove w c))) p c valid may (omega arith)
      (second_0 (set.remove w c) (without h c) leader c (position_after p c valid may) (omega (arith, less, four))
      (best_removed h w c best) turn (unbeaten_by h w c c best in')
      (λ g l valid' fewer best'. taken n g l [] (set.remove w c) (omega (arith, few, less, fewer)) valid' best' tt)))
  taken (suc n) h leader (a ∷ []) w few valid best lower =
      let p = at h strain leader (a ∷ []) in
      choose h leader (a ∷ []) w valid best
      (λ d may not_in.
      let less = one_less_after p d valid may in
      goes_on (side_of holder) (set.len w) p d valid may (omega arith)
      (taken n (without h d) leader (a ∷ d ∷ []) w (omega (arith, few, less)) (position_after p d valid may)
      (best_without h w d not_in best) (lower, lower_by h w d (left_of leader) best (held_by p d may))))
      (λ c turn in' may.
      let less = one_less_after p c valid may in
      let four = four_times p valid in
      goes_on (side_of holder) (suc (set.len (set.remove w c))) p c valid may (omega arith)
      (third_1 (set.remove w c) (without h c) leader a c (position_after p c valid may) (omega (arith, less, four))
      (best_removed h w c best) turn
      (beats_lower h w a a c leader best in' (λ e. opponents leader (ap side_of turn ∙ sym e)) lower)
      (unbeaten_by h w a c best in')
      (λ g l valid' fewer best'. taken n g l [] (set.remove w c) (omega (arith, few, less, fewer)) valid' best' tt)))
  taken (suc n) h leader (a ∷ b ∷ []) w few valid best lower =
      let p = at h strain leader (a ∷ b ∷ []) in
      choose h leader (a ∷ b ∷ []) w valid best
      (λ d may not_in.
      let less = one_less_after p d valid may in
      goes_on (side_of holder) (set.len w) p d valid may (omega arith)
      (taken n (without h d) leader (a ∷ b ∷ d ∷ []) w (omega (arith, few, less)) (position_after p d valid may)
      (best_without h w d not_in best)
      (lower.0, (lower.1, lower_by h w d (left_of (left_of leader)) best (held_by p d may)))))
      (λ c turn in' may.
      let less = one_less_after p c valid may in
      let four = four_times p valid in
      goes_on (side_of holder) (suc (set.len (set.remove w c))) p c valid may (omega arith)
      (fourth_2 (set.remove w c) (without h c) leader a b c (position_after p c valid may) (omega (arith, less, four))
      (best_removed h w c best) turn
      (beats_lower h w a b c (left_of leader) best in'
      (λ e. opponents (left_of leader) (ap side_of turn ∙ sym e)) lower.1)
      (unbeaten_by h w a c best in')
      (λ g l valid' fewer best'. taken n g l [] (set.remove w c) (omega (arith, few, less, fewer)) valid' best' tt)))
  taken (suc n) h leader (a ∷ b ∷ c ∷ []) w few valid best lower =
      let p = at h strain leader (a ∷ b ∷ c ∷ []) in
      choose h leader (a ∷ b ∷ c ∷ []) w valid best
      (λ d may not_in.
      let less = one_less_after p d valid may in
      trick_over (side_of holder) (set.len w) h strain leader a b c d valid may
      (taken n (without h d) (winner strain leader a b c d) [] w (omega (arith, few, less))
      (position_after p d valid may) (best_without h w d not_in best) tt))
      (λ d turn in' may.
      let less = one_less_after p d valid may in
      trick_won (side_of holder) (set.len (set.remove w d)) h strain leader a b c d valid may
      (side_of_fourth leader _ _ _ _
      (beats_lower h w a a d leader best in'
      (λ e. opponents leader (sym (partners (left_of leader)) ∙ ap side_of turn ∙ sym e)) lower.0)
      (beats_lower h w a c d (left_of (left_of leader)) best in'
      (λ e. opponents (left_of (left_of leader)) (ap side_of turn ∙ sym e)) lower.1.1)
      ∙ sym (partners (left_of leader)) ∙ ap side_of turn)
      (taken n (without h d) (winner strain leader a b c d) [] (set.remove w d) (omega (arith, few, less))
      (position_after p d valid may) (best_removed h w d best) tt))
  taken (suc n) h leader (a ∷ b ∷ c ∷ d ∷ rest) w few valid best lower = absurd valid.trick
