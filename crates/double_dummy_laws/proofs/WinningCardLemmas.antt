-- A card that beats the lead and all that third hand may play takes the trick.
use Rattle.std.proofs.Common.{◌≡◌, ◌≢◌, ◌<◌, true, List, [], ◌∷◌, refl, sym, ◌∙◌, subst, inl, inr, arith}
use Rattle.std.specs.FinSet as set
use Rattle.cards.specs.declared.card.Card.{Card}
use Rattle.table_terms.specs.declared.place.Place.{Place}
use Rattle.table_terms.specs.declared.place.Place.TheVariants.{North, East, South, West}
use Rattle.table_terms.specs.declared.strain.Strain.{Strain}
use Rattle.table_terms.specs.Place.{left_of, partner_of, side_of}
use Rattle.cards.specs.Hands.{Hands, hand_of}
use Rattle.cards.specs.Play.{IsPosition, after, legal_of, strength_in, without}
use Rattle.cards.proofs.PlayLemmas.{four_times, position_after}
use Rattle.double_dummy_laws.proofs.BestTrumpLemmas.{opponent_cases, partners, side_of_fourth, side_of_second}
use Rattle.double_dummy_laws.proofs.GuardedTrumpLemmas.{two_cards}
use Rattle.double_dummy_laws.proofs.HandLemmas.{follows_legal, has_without, legal_follows, without_had}
use Rattle.double_dummy_laws.proofs.NeighbourLemmas.{one_less_after}
use Rattle.double_dummy_laws.proofs.TakingLemmas.{
  all_play,
  at,
  goes_on,
  held_by,
  one_plays,
  some_left,
  takes_none,
  trick_won,
}
use Rattle.double_dummy_laws.proofs.WinnerLemmas.{turns_1, turns_2}
use Rattle.double_dummy_laws.specs.SureTricks.{IsWinningCard, TakesAtLeast}

-- opposite sits the second player at the left
pub opposite : (place : Place) → partner_of place ≡ left_of (left_of place)
opposite North = refl
opposite East = refl
opposite South = refl
opposite West = refl

module _ (strain : Strain) (leader : Place) (led card : Card) where
  -- another player's card is gone, and what a player may play is what it was
  was_legal : (h : Hands) (gone other : Card) (place : Place) (more : List Card) →
      (set.contains (hand_of h place) gone ≡ true → ⊥) →
      set.contains (legal_of (hand_of (without h gone) place) (led ∷ more)) other ≡ true →
      set.contains (legal_of (hand_of h place) (led ∷ [])) other ≡ true
  was_legal h gone other place more elsewhere may =
      let facts = legal_follows (hand_of (without h gone) place) (led ∷ more) other may in
      follows_legal (hand_of h place) (led ∷ []) other (without_had h gone other place facts.0).0
      (elim facts.1 [
        | inl same ↦ inl same
        | inr none ↦ inr (λ x held. none x (has_without h gone x place held
            (λ e. elsewhere (subst (λ y. set.contains (hand_of h place) y ≡ true) e held))))
      ])

  still_legal : (h : Hands) (gone other : Card) (place : Place) (table more : List Card) →
      set.contains (legal_of (hand_of h place) (led ∷ table)) other ≡ true → other ≢ gone →
      set.contains (legal_of (hand_of (without h gone) place) (led ∷ more)) other ≡ true
  still_legal h gone other place table more may ne =
      let facts = legal_follows (hand_of h place) (led ∷ table) other may in
      follows_legal (hand_of (without h gone) place) (led ∷ more) other (has_without h gone other place facts.0 ne)
      (elim facts.1 [
        | inl same ↦ inl same
        | inr none ↦ inr (λ x held. none x (without_had h gone x place held).0)
      ])

  abbrev third : Place
  third = left_of (left_of leader)

  abbrev fourth : Place
  fourth = left_of (left_of (left_of leader))

  -- third hand has nothing against the card
  abbrev IsBeaten : Hands → Type 0
  IsBeaten h = (other : Card) → set.contains (legal_of (hand_of h third) (led ∷ [])) other ≡ true →
      strength_in strain led other < strength_in strain led card

  by_second : (h : Hands) → IsPosition (at h strain leader (led ∷ [])) →
      set.contains (legal_of (hand_of h (left_of leader)) (led ∷ [])) card ≡ true →
      strength_in strain led led < strength_in strain led card → IsBeaten h →
      TakesAtLeast (side_of (left_of leader)) 1 (at h strain leader (led ∷ []))
  by_second h valid may first beaten =
      let side = side_of (left_of leader) in
      let p = at h strain leader (led ∷ []) in
      let q = after p card in
      let held = held_by p card may in
      let some = some_left p (left_of leader) card held in
      let four = four_times p valid in
      let less = one_less_after p card valid may in
      let valid' = position_after p card valid may in
      one_plays side 1 p card valid may refl
      (goes_on side 1 p card valid may (omega arith)
      (all_play side 1 q valid' (omega (arith, less, four, some)) (λ c may'.
      let less' = one_less_after q c valid' may' in
      let r = after q c in
      let valid'' = position_after q c valid' may' in
      goes_on side 1 q c valid' may' (omega arith)
      (all_play side 1 r valid'' (omega (arith, less, less', four, some)) (λ d may''.
      trick_won side 0 (without (without h card) c) strain leader led card c d valid'' may''
      (side_of_second leader _ _ _ _ first (beaten c (was_legal h card c third (card ∷ [])
      (λ there. turns_1 (left_of leader) (valid.apart (left_of leader) third card held there)) may')))
      (takes_none side (after r d) (position_after r d valid'' may'')))))))

  by_fourth : (h : Hands) → IsPosition (at h strain leader (led ∷ [])) →
      set.contains (legal_of (hand_of h fourth) (led ∷ [])) card ≡ true →
      strength_in strain led led < strength_in strain led card → IsBeaten h →
      TakesAtLeast (side_of fourth) 1 (at h strain leader (led ∷ []))
  by_fourth h valid may first beaten =
      let side = side_of fourth in
      let p = at h strain leader (led ∷ []) in
      let held = (legal_follows (hand_of h fourth) (led ∷ []) card may).0 in
      let some = some_left p fourth card held in
      let four = four_times p valid in
      all_play side 1 p valid some (λ b may_b.
      let held_b = held_by p b may_b in
      let less = one_less_after p b valid may_b in
      let q = after p b in
      let valid' = position_after p b valid may_b in
      let not_b = two_cards h card b fourth (left_of leader) valid.apart held held_b
      (λ e. turns_2 (left_of leader) (sym e)) in
      goes_on side 1 p b valid may_b (omega arith)
      (all_play side 1 q valid' (omega (arith, less, four, some)) (λ c may_c.
      let held_c = held_by q c may_c in
      let r = after q c in
      let valid'' = position_after q c valid' may_c in
      let not_c = two_cards (without h b) card c fourth third valid'.apart (has_without h b card fourth held not_b)
      held_c (λ e. turns_1 third (sym e)) in
      let may_card = still_legal (without h b) c card fourth [] (b ∷ c ∷ [])
      (still_legal h b card fourth [] [] may not_b) not_c in
      goes_on side 1 q c valid' may_c (omega arith)
      (one_plays side 1 r card valid'' may_card refl
      (trick_won side 0 (without (without h b) c) strain leader led b c card valid'' may_card
      (side_of_fourth leader _ _ _ _ first (beaten c (was_legal h b c third (b ∷ [])
      (λ there. turns_1 (left_of leader) (valid.apart (left_of leader) third b held_b there)) may_c))
      ∙ sym (partners (left_of leader)))
      (takes_none side (after r card) (position_after r card valid'' may_card)))))))

-- second or fourth hand takes the trick with such a card
pub taken : (h : Hands) (strain : Strain) (leader holder : Place) (led card : Card) →
    IsPosition (at h strain leader (led ∷ [])) → IsWinningCard (at h strain leader (led ∷ [])) led holder card →
    TakesAtLeast (side_of holder) 1 (at h strain leader (led ∷ []))
taken h strain leader holder led card valid is =
    let p = at h strain leader (led ∷ []) in
    let beaten = λ (other : Card)
    (may : set.contains (legal_of (hand_of h (left_of (left_of leader))) (led ∷ [])) other ≡ true).
    is.third other (subst (λ place. set.contains (legal_of (hand_of h place) (led ∷ [])) other ≡ true)
    (sym (opposite leader)) may) in
    elim (opponent_cases holder leader is.opponent) [
      | inl here ↦ subst (λ place. TakesAtLeast (side_of place) 1 p) (sym here)
          (by_second strain leader led card h valid
          (subst (λ place. set.contains (legal_of (hand_of h place) (led ∷ [])) card ≡ true) here is.may)
          is.first beaten)
      | inr last ↦ subst (λ place. TakesAtLeast (side_of place) 1 p) (sym last)
          (by_fourth strain leader led card h valid
          (subst (λ place. set.contains (legal_of (hand_of h place) (led ∷ [])) card ≡ true) last is.may)
          is.first beaten)
    ]
