-- A trump of the opponents beats one trump at most, so a player's trumps that are more than those take the rest.
use Rattle.std.proofs.Common.{◌≡◌, ◌≢◌, ◌⊎◌, ℕ, ◌-◌, ◌<◌, ◌≤◌, true, [], ◌∷◌, sym, ap, ◌∙◌, inl, inr, arith, zero, suc}
use Rattle.std.proofs.lemmas.Bool.{cases_Bool, false_from_ne_true, true≢false}
use Rattle.std.specs.FinSet as set
use Rattle.cards.specs.declared.card.Card.{Card}
use Rattle.cards.specs.Cards.{Cards}
use Rattle.table_terms.specs.declared.place.Place.{Place}
use Rattle.table_terms.specs.declared.strain.Strain.{Strain}
use Rattle.table_terms.specs.Place.{left_of, side_of}
use Rattle.table_terms.specs.Strain.{trump_of}
use Rattle.cards.specs.Hands.{Hands, hand_of}
use Rattle.cards.specs.Play.{IsApart, IsPosition, cards_left, is_trump, legal, strength_in, winner, without}
use Rattle.cards.proofs.PlayLemmas.{four_times, position_after}
use Rattle.double_dummy_laws.proofs.BestTrumpLemmas.{opponents, partners, side_of_first, side_of_fourth, side_of_second, side_of_third, trump_beats}
use Rattle.double_dummy_laws.proofs.CountLemmas.{has_less, has_same, no_more}
use Rattle.double_dummy_laws.proofs.HandLemmas.{has_without, without_had}
use Rattle.double_dummy_laws.proofs.NeighbourLemmas.{one_less_after}
use Rattle.double_dummy_laws.proofs.TakingLemmas.{AreFrom, CardTakes, all_play, at, goes_on, has_removed, held_by, removed_had, seat, some_left, some_of, takes_none, trick_over, trick_won}
use Rattle.double_dummy_laws.proofs.WinnerLemmas.{turns_1, turns_2, turns_3}
use Rattle.double_dummy_laws.specs.SureTricks.{AreLongTrumps, TakesAtLeast}

-- a set without the four cards of a trick
abbrev pub rest_of : Cards → Card → Card → Card → Card → Cards
rest_of s a b c d = set.remove (set.remove (set.remove (set.remove s a) b) c) d

abbrev IsOut : Cards → Card → Type 0
IsOut s card = set.contains s card ≡ true → ⊥

still_out : (s : Cards) (gone card : Card) → IsOut s card → IsOut (set.remove s gone) card
still_out s gone card out in' = out (removed_had s gone card in').0

as_many : (s : Cards) (card : Card) → IsOut s card → set.len (set.remove s card) ≡ set.len s
as_many s card out = has_same s card (false_from_ne_true _ out)

one_fewer : (s : Cards) (card : Card) → set.len s ≤ suc (set.len (set.remove s card))
one_fewer s card = elim (cases_Bool (set.contains s card)) [
  | inl in' ↦ omega (arith, has_less s card in')
  | inr out ↦ omega (arith, has_same s card out)
]

module _ (s : Cards) (a b c d : Card) where
  pub no_more_left : set.len (rest_of s a b c d) ≤ set.len s
  no_more_left =
      omega (
        arith,
        no_more s a,
        no_more (set.remove s a) b,
        no_more (set.remove (set.remove s a) b) c,
        no_more (set.remove (set.remove (set.remove s a) b) c) d,
      )

  all_left : IsOut s a → IsOut s b → IsOut s c → IsOut s d → set.len (rest_of s a b c d) ≡ set.len s
  all_left out_a out_b out_c out_d =
      omega (
        arith,
        as_many s a out_a,
        as_many (set.remove s a) b (still_out s a b out_b),
        as_many (set.remove (set.remove s a) b) c (still_out (set.remove s a) b c (still_out s a c out_c)),
        as_many (set.remove (set.remove (set.remove s a) b) c) d
            (still_out (set.remove (set.remove s a) b) c d (still_out (set.remove s a) b d (still_out s a d out_d))),
      )

  -- where three of them are out
  but_first : IsOut s b → IsOut s c → IsOut s d → set.len s ≤ suc (set.len (rest_of s a b c d))
  but_first out_b out_c out_d =
      omega (
        arith,
        one_fewer s a,
        as_many (set.remove s a) b (still_out s a b out_b),
        as_many (set.remove (set.remove s a) b) c (still_out (set.remove s a) b c (still_out s a c out_c)),
        as_many (set.remove (set.remove (set.remove s a) b) c) d
            (still_out (set.remove (set.remove s a) b) c d (still_out (set.remove s a) b d (still_out s a d out_d))),
      )

  but_second : IsOut s a → IsOut s c → IsOut s d → set.len s ≤ suc (set.len (rest_of s a b c d))
  but_second out_a out_c out_d =
      omega (
        arith,
        as_many s a out_a,
        one_fewer (set.remove s a) b,
        as_many (set.remove (set.remove s a) b) c (still_out (set.remove s a) b c (still_out s a c out_c)),
        as_many (set.remove (set.remove (set.remove s a) b) c) d
            (still_out (set.remove (set.remove s a) b) c d (still_out (set.remove s a) b d (still_out s a d out_d))),
      )

  but_third : IsOut s a → IsOut s b → IsOut s d → set.len s ≤ suc (set.len (rest_of s a b c d))
  but_third out_a out_b out_d =
      omega (
        arith,
        as_many s a out_a,
        as_many (set.remove s a) b (still_out s a b out_b),
        one_fewer (set.remove (set.remove s a) b) c,
        as_many (set.remove (set.remove (set.remove s a) b) c) d
            (still_out (set.remove (set.remove s a) b) c d (still_out (set.remove s a) b d (still_out s a d out_d))),
      )

  but_fourth : IsOut s a → IsOut s b → IsOut s c → set.len s ≤ suc (set.len (rest_of s a b c d))
  but_fourth out_a out_b out_c =
      omega (
        arith,
        as_many s a out_a,
        as_many (set.remove s a) b (still_out s a b out_b),
        as_many (set.remove (set.remove s a) b) c (still_out (set.remove s a) b c (still_out s a c out_c)),
        one_fewer (set.remove (set.remove (set.remove s a) b) c) d,
      )

  -- where one of them was in
  pub first_gone : set.contains s a ≡ true → set.len (rest_of s a b c d) < set.len s
  first_gone in' =
      omega (
        arith,
        has_less s a in',
        no_more (set.remove s a) b,
        no_more (set.remove (set.remove s a) b) c,
        no_more (set.remove (set.remove (set.remove s a) b) c) d,
      )

  pub second_gone : set.contains s b ≡ true → b ≢ a → set.len (rest_of s a b c d) < set.len s
  second_gone in' ba =
      omega (
        arith,
        no_more s a,
        has_less (set.remove s a) b (has_removed s a b in' ba),
        no_more (set.remove (set.remove s a) b) c,
        no_more (set.remove (set.remove (set.remove s a) b) c) d,
      )

  pub third_gone : set.contains s c ≡ true → c ≢ a → c ≢ b → set.len (rest_of s a b c d) < set.len s
  third_gone in' ca cb =
      omega (
        arith,
        no_more s a,
        no_more (set.remove s a) b,
        has_less (set.remove (set.remove s a) b) c (has_removed (set.remove s a) b c (has_removed s a c in' ca) cb),
        no_more (set.remove (set.remove (set.remove s a) b) c) d,
      )

  pub fourth_gone : set.contains s d ≡ true → d ≢ a → d ≢ b → d ≢ c → set.len (rest_of s a b c d) < set.len s
  fourth_gone in' da db dc =
      omega (
        arith,
        no_more s a,
        no_more (set.remove s a) b,
        no_more (set.remove (set.remove s a) b) c,
        has_less (set.remove (set.remove (set.remove s a) b) c) d (has_removed (set.remove (set.remove s a) b) c d
            (has_removed (set.remove s a) b d (has_removed s a d in' da) db) dc),
      )

module _ (strain : Strain) (holder : Place) where
  -- the trumps of these hands, and those that may beat them
  abbrev Long : Hands → Cards → Cards → Type 0
  Long h w v = AreLongTrumps (at h strain holder []) holder w v

  long_without : (h : Hands) (w v : Cards) (gone : Card) → Long h w v →
      Long (without h gone) (set.remove w gone) (set.remove v gone)
  long_without h w v gone long = record {
    held = λ card in'. let had = removed_had w gone card in' in
        has_without h gone card holder (long.held card had.0) had.1;
    trumps = λ card in'. long.trumps card (removed_had w gone card in').0;
    lower = λ card other place in' ne there is.
        let was = without_had h gone other place there in
        elim (long.lower card other place (removed_had w gone card in').0 ne was.0 is) [
          | inl beats ↦ inl (has_removed v gone other beats was.1)
          | inr less ↦ inr less
        ];
  }

  -- another player's card is none of them
  out_of : (h : Hands) (w v : Cards) (card : Card) (place : Place) → IsApart h → Long h w v →
      set.contains (hand_of h place) card ≡ true → place ≢ holder → IsOut w card
  out_of h w v card place apart long held ne in' = ne (apart place holder card held (long.held card in'))

  -- a card of an opponent may beat one of them, or it doesn't
  beats_or : (h : Hands) (w v : Cards) (led card other : Card) (place : Place) → Long h w v →
      set.contains w card ≡ true → side_of place ≢ side_of holder → set.contains (hand_of h place) other ≡ true →
      (set.contains v other ≡ true) ⊎ (strength_in strain led other < strength_in strain led card)
  beats_or h w v led card other place long in' ne there =
      elim (cases_Bool (is_trump (trump_of strain) other)) [
        | inl is ↦ elim (long.lower card other place in' ne there is) [
          | inl beats ↦ inl beats
          | inr less ↦ inr (trump_beats (trump_of strain) led.suit other card (long.trumps card in') (λ also. less))
        ]
        | inr plain ↦ inr (trump_beats (trump_of strain) led.suit other card (long.trumps card in')
            (λ is. absurd (true≢false (sym is ∙ plain))))
      ]

  module _ (k : ℕ) (h : Hands) (leader : Place) (w v : Cards) (a b c d : Card) (valid
      : IsPosition (at (without (without (without h a) b) c) strain leader (a ∷ b ∷ c ∷ []))) (may
      : set.contains (legal (at (without (without (without h a) b) c) strain leader (a ∷ b ∷ c ∷ []))) d ≡ true) (many
      : suc k ≤ set.len w - set.len v) (next : (j : ℕ) → j ≤ set.len (rest_of w a b c d) - set.len (rest_of v a b c d) →
      TakesAtLeast (side_of holder) j
      (at (without (without (without (without h a) b) c) d) strain (winner strain leader a b c d) [])) where
    -- the trick, with the holder's card and the opponents' ones in it
    settle : (x y z : Card) → set.len w ≤ suc (set.len (rest_of w a b c d)) →
        (IsOut w x → set.len (rest_of w a b c d) ≡ set.len w) →
        (set.contains v y ≡ true → set.len (rest_of v a b c d) < set.len v) →
        (set.contains v z ≡ true → set.len (rest_of v a b c d) < set.len v) →
        (set.contains w x ≡ true → (set.contains v y ≡ true) ⊎ (strength_in strain a y < strength_in strain a x)) →
        (set.contains w x ≡ true → (set.contains v z ≡ true) ⊎ (strength_in strain a z < strength_in strain a x)) →
        (strength_in strain a y < strength_in strain a x → strength_in strain a z < strength_in strain a x →
        side_of (winner strain leader a b c d) ≡ side_of holder) →
        CardTakes (side_of holder) (suc k) (at (without (without (without h a) b) c) strain leader (a ∷ b ∷ c ∷ [])) d
    settle x y z one none y_gone z_gone y_or z_or won =
        let fewer = no_more_left v a b c d in
        let over = λ (enough : suc k ≤ set.len (rest_of w a b c d) - set.len (rest_of v a b c d)).
        trick_over (side_of holder) (suc k) (without (without (without h a) b) c) strain leader a b c d valid may
        (next (suc k) enough) in
        elim (cases_Bool (set.contains w x)) [
          | inr out ↦ over (omega (arith, many, fewer, none (λ in'. true≢false (sym in' ∙ out))))
          | inl in' ↦ elim (y_or in') [
            | inl beats ↦ over (omega (arith, many, one, y_gone beats))
            | inr y_less ↦ elim (z_or in') [
              | inl beats ↦ over (omega (arith, many, one, z_gone beats))
              | inr z_less ↦
                  trick_won (side_of holder) k (without (without (without h a) b) c) strain leader a b c d valid may
                  (won y_less z_less) (next k (omega (arith, many, one, fewer)))
            ]
          ]
        ]

    ends : IsApart h → Long h w v → AreFrom h leader a b c d →
        CardTakes (side_of holder) (suc k) (at (without (without (without h a) b) c) strain leader (a ∷ b ∷ c ∷ [])) d
    ends apart long from =
        let second = left_of leader in
        let third = left_of second in
        let fourth = left_of third in
        let out = λ (card : Card) (place : Place) (held : set.contains (hand_of h place) card ≡ true)
        (ne : place ≢ holder). out_of h w v card place apart long held ne in
        let b_gone = λ (in' : set.contains v b ≡ true). second_gone v a b c d in' from.ba in
        let c_gone = λ (in' : set.contains v c ≡ true). third_gone v a b c d in' from.ca from.cb in
        let d_gone = λ (in' : set.contains v d ≡ true). fourth_gone v a b c d in' from.da from.db from.dc in
        elim (seat leader holder) [
          | inl is ↦
              let out_b = out b second from.second (λ e. turns_1 leader (sym (e ∙ is))) in
              let out_c = out c third from.third (λ e. turns_2 leader (sym (e ∙ is))) in
              let out_d = out d fourth from.fourth (λ e. turns_3 leader (sym (e ∙ is))) in
              settle a b d (but_first w a b c d out_b out_c out_d)
              (λ out_a. all_left w a b c d out_a out_b out_c out_d) b_gone d_gone
              (λ in'. beats_or h w v a a b second long in' (λ e. opponents leader (e ∙ ap side_of is)) from.second)
              (λ in'. beats_or h w v a a d fourth long in'
              (λ e. opponents third (e ∙ ap side_of is ∙ sym (partners leader))) from.fourth)
              (λ first last. side_of_first leader _ _ _ _ first last ∙ ap side_of (sym is))
          | inr (inl is) ↦
              let out_a = out a leader from.first (λ e. turns_1 leader (e ∙ is)) in
              let out_c = out c third from.third (λ e. turns_1 second (sym (e ∙ is))) in
              let out_d = out d fourth from.fourth (λ e. turns_2 second (sym (e ∙ is))) in
              settle b a c (but_second w a b c d out_a out_c out_d)
              (λ out_b. all_left w a b c d out_a out_b out_c out_d) (first_gone v a b c d) c_gone
              (λ in'. beats_or h w v a b a leader long in' (λ e. opponents leader (sym (e ∙ ap side_of is))) from.first)
              (λ in'. beats_or h w v a b c third long in' (λ e. opponents second (e ∙ ap side_of is)) from.third)
              (λ first third'. side_of_second leader _ _ _ _ first third' ∙ ap side_of (sym is))
          | inr (inr (inl is)) ↦
              let out_a = out a leader from.first (λ e. turns_2 leader (e ∙ is)) in
              let out_b = out b second from.second (λ e. turns_1 second (e ∙ is)) in
              let out_d = out d fourth from.fourth (λ e. turns_1 third (sym (e ∙ is))) in
              settle c b d (but_third w a b c d out_a out_b out_d)
              (λ out_c. all_left w a b c d out_a out_b out_c out_d) b_gone d_gone
              (λ in'. beats_or h w v a c b second long in' (λ e. opponents second (sym (e ∙ ap side_of is)))
              from.second)
              (λ in'. beats_or h w v a c d fourth long in' (λ e. opponents third (e ∙ ap side_of is)) from.fourth)
              (λ first last. side_of_third leader _ _ _ _ first last ∙ sym (partners leader) ∙ ap side_of (sym is))
          | inr (inr (inr is)) ↦
              let out_a = out a leader from.first (λ e. turns_3 leader (e ∙ is)) in
              let out_b = out b second from.second (λ e. turns_2 second (e ∙ is)) in
              let out_c = out c third from.third (λ e. turns_1 third (e ∙ is)) in
              settle d a c (but_fourth w a b c d out_a out_b out_c)
              (λ out_d. all_left w a b c d out_a out_b out_c out_d) (first_gone v a b c d) c_gone
              (λ in'. beats_or h w v a d a leader long in'
              (λ e. opponents third (sym (partners leader ∙ e ∙ ap side_of is))) from.first)
              (λ in'. beats_or h w v a d c third long in' (λ e. opponents third (sym (e ∙ ap side_of is))) from.third)
              (λ first third'. side_of_fourth leader _ _ _ _ first third' ∙ sym (partners second)
              ∙ ap side_of (sym is))
        ]

  -- with at most so many cards left
  pub taken : (n k : ℕ) (h : Hands) (leader : Place) (w v : Cards) → cards_left (at h strain leader []) ≤ n →
      IsPosition (at h strain leader []) → Long h w v → k ≤ set.len w - set.len v →
      TakesAtLeast (side_of holder) k (at h strain leader [])
  taken n zero h leader w v few valid long many = takes_none (side_of holder) (at h strain leader []) valid
  taken zero (suc k) h leader w v few valid long many =
      let one = some_of w (λ none. omega (arith, many, none)) in
      absurd (omega (arith, few, some_left (at h strain leader []) holder one.0 (long.held one.0 one.1)))
  taken (suc n) (suc k) h leader w v few valid long many =
      let side = side_of holder in
      let p = at h strain leader [] in
      let one = some_of w (λ none. omega (arith, many, none)) in
      let some = some_left p holder one.0 (long.held one.0 one.1) in
      let four = four_times p valid in
      all_play side (suc k) p valid some (λ a may_a.
      let h1 = without h a in
      let p1 = at h1 strain leader (a ∷ []) in
      let valid_1 = position_after p a valid may_a in
      let less_1 = one_less_after p a valid may_a in
      goes_on side (suc k) p a valid may_a (omega arith)
      (all_play side (suc k) p1 valid_1 (omega (arith, some, four, less_1)) (λ b may_b.
      let h2 = without h1 b in
      let p2 = at h2 strain leader (a ∷ b ∷ []) in
      let valid_2 = position_after p1 b valid_1 may_b in
      let less_2 = one_less_after p1 b valid_1 may_b in
      goes_on side (suc k) p1 b valid_1 may_b (omega arith)
      (all_play side (suc k) p2 valid_2 (omega (arith, some, four, less_1, less_2)) (λ c may_c.
      let h3 = without h2 c in
      let p3 = at h3 strain leader (a ∷ b ∷ c ∷ []) in
      let valid_3 = position_after p2 c valid_2 may_c in
      let less_3 = one_less_after p2 c valid_2 may_c in
      goes_on side (suc k) p2 c valid_2 may_c (omega arith)
      (all_play side (suc k) p3 valid_3 (omega (arith, some, four, less_1, less_2, less_3)) (λ d may_d.
      let less_4 = one_less_after p3 d valid_3 may_d in
      let from_1 = without_had h a b (left_of leader) (held_by p1 b may_b) in
      let third = left_of (left_of leader) in
      let from_2 = without_had h1 b c third (held_by p2 c may_c) in
      let from_3 = without_had h a c third from_2.0 in
      let fourth = left_of third in
      let from_4 = without_had h2 c d fourth (held_by p3 d may_d) in
      let from_5 = without_had h1 b d fourth from_4.0 in
      let from_6 = without_had h a d fourth from_5.0 in
      ends k h leader w v a b c d valid_3 may_d many
      (λ j enough. taken n j (without h3 d) (winner strain leader a b c d) (rest_of w a b c d) (rest_of v a b c d)
      (omega (arith, few, less_1, less_2, less_3, less_4)) (position_after p3 d valid_3 may_d)
      (long_without h3 (set.remove (set.remove (set.remove w a) b) c) (set.remove (set.remove (set.remove v a) b) c) d
      (long_without h2 (set.remove (set.remove w a) b) (set.remove (set.remove v a) b) c
      (long_without h1 (set.remove w a) (set.remove v a) b (long_without h w v a long)))) enough)
      valid.apart long (record {
        first = held_by p a may_a;
        second = from_1.0;
        third = from_3.0;
        fourth = from_6.0;
        ba = from_1.1;
        ca = from_3.1;
        cb = from_2.1;
        da = from_6.1;
        db = from_5.1;
        dc = from_4.1;
      }))))))))
