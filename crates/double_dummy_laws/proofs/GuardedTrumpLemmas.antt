-- A second best trump that is guarded takes a trick behind the best one.
use Rattle.std.proofs.Common.{
  ◌≡◌,
  ◌≢◌,
  ◌⊎◌,
  ℕ,
  ◌+◌,
  ◌<◌,
  ◌≤◌,
  true,
  List,
  [],
  ◌∷◌,
  refl,
  sym,
  ap,
  ◌∙◌,
  subst,
  inl,
  inr,
  arith,
  zero,
  suc,
}
use Rattle.std.specs.Prelude.{nat_eq}
use Rattle.std.specs.Ordering.{eq_by_cmp}
use Rattle.std.proofs.lemmas.Bool.{cases_Bool, cond-false, or_cases, or_left, true≢false}
use Rattle.std.specs.FinSet as set
use Rattle.cards.specs.declared.card.Card.{Card}
use Rattle.cards.specs.Card.{card_cmp}
use Rattle.cards.specs.CardBits.{card_cmp_total, tied_is_equal}
use Rattle.cards.specs.Cards.{Cards}
use Rattle.cards.specs.Rank.{height}
use Rattle.table_terms.specs.declared.place.Place.{Place}
use Rattle.table_terms.specs.declared.place.Place.TheVariants.{North, East, South, West}
use Rattle.table_terms.specs.declared.side.Side.{Side}
use Rattle.table_terms.specs.declared.side.Side.TheVariants.{NorthSouth, EastWest}
use Rattle.table_terms.specs.declared.strain.Strain.{Strain}
use Rattle.table_terms.specs.Suit.{suit_number}
use Rattle.table_terms.specs.Place.{left_of, side_of}
use Rattle.table_terms.specs.Strain.{trump_of}
use Rattle.cards.specs.Hands.{Hands, hand_of}
use Rattle.cards.specs.Play.{
  IsApart,
  IsPosition,
  Position,
  after,
  cards_left,
  is_trump,
  legal,
  strength_in,
  to_play,
  winner,
  without,
}
use Rattle.cards.proofs.PlayLemmas.{four_times, position_after}
use Rattle.double_dummy_laws.proofs.BestTrumpLemmas as trumps
use Rattle.double_dummy_laws.proofs.BestTrumpLemmas.{opponents, partners, side_of_fourth, side_of_second, trump_beats}
use Rattle.double_dummy_laws.proofs.HandLemmas.{Follows, follows_legal, has_without, legal_follows, tied, without_had}
use Rattle.double_dummy_laws.proofs.NeighbourLemmas.{one_less_after}
use Rattle.double_dummy_laws.proofs.TakingLemmas.{
  CardTakes,
  all_play,
  at,
  goes_on,
  held_by,
  one_plays,
  some_left,
  takes_none,
  trick_over,
  trick_won,
}
use Rattle.double_dummy_laws.proofs.WinnerLemmas.{both_trumps, turns_1, turns_2, turns_3}
use Rattle.double_dummy_laws.specs.SureTricks.{AreBestTrumps, TakesAtLeast}

-- two sides are the same or not
sides : (side other : Side) → (side ≡ other) ⊎ (side ≢ other)
sides NorthSouth NorthSouth = inl refl
sides NorthSouth EastWest = inr (λ e. cc)
sides EastWest NorthSouth = inr (λ e. cc)
sides EastWest EastWest = inl refl

-- two cards are the same or not
cards_same : (card other : Card) → (card ≡ other) ⊎ (card ≢ other)
cards_same card other =
    elim (cases_Bool (eq_by_cmp card_cmp card other)) [
      | inl same ↦ inl (tied_is_equal card other same)
      | inr differ ↦ inr (λ e. true≢false (sym (tied card other e) ∙ differ))
    ]

-- an opponent of the player at one's left is oneself, or partner
leaders : (leader before : Place) → side_of leader ≢ side_of (left_of before) →
    (leader ≡ before) ⊎ (left_of (left_of leader) ≡ before)
leaders North North ne = inl refl
leaders North East ne = absurd (ne refl)
leaders North South ne = inr refl
leaders North West ne = absurd (ne refl)
leaders East North ne = absurd (ne refl)
leaders East East ne = inl refl
leaders East South ne = absurd (ne refl)
leaders East West ne = inr refl
leaders South North ne = inr refl
leaders South East ne = absurd (ne refl)
leaders South South ne = inl refl
leaders South West ne = absurd (ne refl)
leaders West North ne = absurd (ne refl)
leaders West East ne = inr refl
leaders West South ne = absurd (ne refl)
leaders West West ne = inl refl

-- of two cards of a suit in a hand, both are legal or none
pub legal_too : (p : Position) (card other : Card) → card.suit ≡ other.suit →
    set.contains (hand_of p.hands (to_play p)) other ≡ true → set.contains (legal p) card ≡ true →
    set.contains (legal p) other ≡ true
legal_too p card other same held may =
    let hand = hand_of p.hands (to_play p) in
    follows_legal hand p.table other held (also p.table (legal_follows hand p.table card may).1)
  where
    also : (table : List Card) → Follows (hand_of p.hands (to_play p)) table card →
        Follows (hand_of p.hands (to_play p)) table other
    also [] follows = tt
    also (led ∷ rest) follows =
        elim follows [
          | inl is ↦ inl (ap (λ suit. nat_eq (suit_number led.suit) (suit_number suit)) (sym same) ∙ is)
          | inr none ↦ inr none
        ]

-- cards of two players are two cards
pub two_cards : (h : Hands) (card other : Card) (place player : Place) → IsApart h →
    set.contains (hand_of h place) card ≡ true → set.contains (hand_of h player) other ≡ true → place ≢ player →
    card ≢ other
two_cards h card other place player apart held there ne e =
    ne (apart place player card held (subst (λ x. set.contains (hand_of h player) x ≡ true) (sym e) there))

-- just one card
abbrev just : Card → Cards
just card = set.insert set.empty card

just_one : (card other : Card) → set.contains (just card) other ≡ true → other ≡ card
just_one card other in' =
    elim (or_cases _ _ (sym (set.contains-insert card_cmp_total set.empty card other) ∙ in')) [
      | inl same ↦ tied_is_equal other card same
      | inr none ↦ absurd (true≢false (sym none ∙ set.contains-empty card_cmp other))
    ]

just_len : (card : Card) → set.len (just card) ≡ 1
just_len card =
    set.len-insert card_cmp_total set.empty card ∙ cond-false _ _ _ (set.contains-empty card_cmp card)
    ∙ ap (λ n. n + 1) (set.len-empty card_cmp)

-- the player before has the best trump, or had it; the player has the second best, with a guard
module _ (strain : Strain) (before : Place) (best second guard : Card) (is : is_trump (trump_of strain) second ≡ true)
    (guards : is_trump (trump_of strain) guard ≡ true) (differ : guard ≢ second) where
  abbrev holder : Place
  holder = left_of before

  abbrev Takes : Position → Type 0
  Takes p = TakesAtLeast (side_of holder) 1 p

  -- before the best trump is played
  pub record Waits (h : Hands) : Type 0 where
    pub held : set.contains (hand_of h holder) second ≡ true
    pub guarded : set.contains (hand_of h holder) guard ≡ true
    pub right : set.contains (hand_of h before) best ≡ true
    pub higher : (other : Card) (place : Place) → side_of place ≢ side_of holder →
        set.contains (hand_of h place) other ≡ true → is_trump (trump_of strain) other ≡ true →
        other ≢ best → height other.rank < height second.rank

  -- and after it
  abbrev Rules : Hands → Type 0
  Rules h = AreBestTrumps (at h strain holder []) holder (just second)

  suits : second.suit ≡ guard.suit
  suits = both_trumps (trump_of strain) second guard is guards

  waits_without : (h : Hands) (gone : Card) → Waits h → gone ≢ best → gone ≢ second → gone ≢ guard →
      Waits (without h gone)
  waits_without h gone waits not_best not_second not_guard = record {
    held = has_without h gone second holder waits.held (λ e. not_second (sym e));
    guarded = has_without h gone guard holder waits.guarded (λ e. not_guard (sym e));
    right = has_without h gone best before waits.right (λ e. not_best (sym e));
    higher = λ other place ne there. waits.higher other place ne (without_had h gone other place there).0;
  }

  rules_without : (h : Hands) (gone : Card) → Rules h → gone ≢ second → Rules (without h gone)
  rules_without h gone rules not_second = record {
    held = λ card in'. has_without h gone card holder (rules.held card in')
        (λ e. not_second (sym e ∙ just_one second card in'));
    trumps = rules.trumps;
    higher = λ card other place in' ne there.
        rules.higher card other place in' ne (without_had h gone other place there).0;
  }

  -- the best trump is played
  rules_then : (h : Hands) (gone : Card) → Waits h → gone ≡ best → gone ≢ second → Rules (without h gone)
  rules_then h gone waits is_best not_second = record {
    held = λ card in'. let same = just_one second card in' in
        has_without h gone card holder
        (subst (λ x. set.contains (hand_of h holder) x ≡ true) (sym same) waits.held)
        (λ e. not_second (sym e ∙ same));
    trumps = λ card in'. ap (is_trump (trump_of strain)) (just_one second card in') ∙ is;
    higher = λ card other place in' ne there trump.
        let had = without_had h gone other place there in
        subst (λ x. height other.rank < height x.rank) (sym (just_one second card in'))
        (waits.higher other place ne had.0 trump (λ e. had.1 (e ∙ sym is_best)));
  }

  -- an opponent's card other than the best trump is beaten
  beaten : (h : Hands) (led other : Card) (place : Place) → Waits h → side_of place ≢ side_of holder →
      set.contains (hand_of h place) other ≡ true → other ≢ best →
      strength_in strain led other < strength_in strain led second
  beaten h led other place waits ne held not_best =
      trump_beats (trump_of strain) led.suit other second is
      (λ trump. waits.higher other place ne held trump not_best)

  -- the player's turn, after the best trump was played: the second best is kept
  keeps : (p : Position) → IsPosition p → to_play p ≡ holder →
      set.contains (hand_of p.hands holder) guard ≡ true →
      ((d : Card) → set.contains (legal p) d ≡ true → d ≢ second → CardTakes (side_of holder) 1 p d) → Takes p
  keeps p valid turn guarded each =
      elim (cases_Bool (set.contains (legal p) second)) [
        | inl may ↦
            let guard_may = legal_too p second guard suits
            (subst (λ place. set.contains (hand_of p.hands place) guard ≡ true) (sym turn) guarded) may in
            one_plays (side_of holder) 1 p guard valid guard_may (ap side_of turn) (each guard guard_may differ)
        | inr not ↦
            all_play (side_of holder) 1 p valid (some_left p holder guard guarded)
            (λ d may. each d may (λ e. true≢false (sym may ∙ ap (set.contains (legal p)) e ∙ not)))
      ]

  -- the player's turn, before the best trump is played: the second best is played where that is legal, and else both
  -- trumps are kept
  beats : (p : Position) → IsPosition p → to_play p ≡ holder →
      set.contains (hand_of p.hands holder) second ≡ true →
      (set.contains (legal p) second ≡ true → CardTakes (side_of holder) 1 p second) →
      ((d : Card) → set.contains (legal p) d ≡ true → d ≢ second → d ≢ guard → CardTakes (side_of holder) 1 p d) →
      Takes p
  beats p valid turn held wins each =
      elim (cases_Bool (set.contains (legal p) second)) [
        | inl may ↦ one_plays (side_of holder) 1 p second valid may (ap side_of turn) (wins may)
        | inr not ↦
            all_play (side_of holder) 1 p valid (some_left p holder second held)
            (λ d may. each d may (λ e. true≢false (sym may ∙ ap (set.contains (legal p)) e ∙ not))
            (λ e. true≢false (sym (legal_too p guard second (sym suits)
            (subst (λ place. set.contains (hand_of p.hands place) second ≡ true) (sym turn) held)
            (subst (λ x. set.contains (legal p) x ≡ true) e may)) ∙ not)))
      ]

  -- what is so at the beginning of the next trick, where an opponent won
  abbrev Next : Hands → Type 0
  Next h = (leader : Place) → IsPosition (at h strain leader []) → side_of leader ≢ side_of holder →
      Takes (at h strain leader [])

  rules_next : (h : Hands) → Rules h → Next h
  rules_next h rules leader valid ne =
      subst (λ k. TakesAtLeast (side_of holder) k (at h strain leader [])) (just_len second)
      (trumps.taken strain holder (cards_left (at h strain leader [])) h leader [] (just second) (omega arith) valid
      rules tt)

  last_card : (h : Hands) (leader : Place) (a b c d : Card) → IsPosition (at h strain leader (a ∷ b ∷ c ∷ [])) →
      set.contains (legal (at h strain leader (a ∷ b ∷ c ∷ []))) d ≡ true → Next (without h d) →
      CardTakes (side_of holder) 1 (at h strain leader (a ∷ b ∷ c ∷ [])) d
  last_card h leader a b c d valid may next =
      let p = at h strain leader (a ∷ b ∷ c ∷ []) in
      elim (sides (side_of (winner strain leader a b c d)) (side_of holder)) [
        | inl won ↦ trick_won (side_of holder) 0 h strain leader a b c d valid may won
            (takes_none (side_of holder) (after p d) (position_after p d valid may))
        | inr lost ↦ trick_over (side_of holder) 1 h strain leader a b c d valid may
            (next (winner strain leader a b c d) (position_after p d valid may) lost)
      ]

  -- two players' cards complete the trick
  two_more : (Now : Hands → Type 0) (h : Hands) (leader : Place) (a b : Card) → leader ≡ before →
      IsPosition (at h strain leader (a ∷ b ∷ [])) → 1 < cards_left (at h strain leader (a ∷ b ∷ [])) → Now h →
      ((g : Hands) (card : Card) (place : Place) → IsApart g → Now g → set.contains (hand_of g place) card ≡ true →
      place ≢ before → place ≢ holder → Now (without g card)) →
      ((g : Hands) → cards_left (at g strain leader []) < cards_left (at h strain leader []) → Now g → Next g) →
      Takes (at h strain leader (a ∷ b ∷ []))
  two_more Now h leader a b first valid some now stays next =
      let p = at h strain leader (a ∷ b ∷ []) in
      all_play (side_of holder) 1 p valid (omega arith) (λ c may.
      let held = held_by p c may in
      let less = one_less_after p c valid may in
      let q = after p c in
      let valid' = position_after p c valid may in
      let now' = stays h c (left_of (left_of leader)) valid.apart now held (λ e. turns_2 leader (first ∙ sym e))
      (λ e. turns_1 (left_of leader) (ap left_of first ∙ sym e)) in
      goes_on (side_of holder) 1 p c valid may (omega arith)
      (all_play (side_of holder) 1 q valid' (omega arith) (λ d may'.
      let held' = held_by q d may' in
      let less' = one_less_after q d valid' may' in
      last_card (without h c) leader a b c d valid' may'
      (next (without (without h c) d) (omega (arith, less, less'))
      (stays (without h c) d (left_of (left_of (left_of leader))) valid'.apart now' held'
      (λ e. turns_3 leader (first ∙ sym e)) (λ e. turns_2 (left_of leader) (ap left_of first ∙ sym e)))))))

  waits_stay : (g : Hands) (card : Card) (place : Place) → IsApart g → Waits g →
      set.contains (hand_of g place) card ≡ true → place ≢ before → place ≢ holder → Waits (without g card)
  waits_stay g card place apart waits held not_before not_holder =
      waits_without g card waits (two_cards g card best place before apart held waits.right not_before)
      (two_cards g card second place holder apart held waits.held not_holder)
      (two_cards g card guard place holder apart held waits.guarded not_holder)

  rules_stay : (g : Hands) (card : Card) (place : Place) → IsApart g → Rules g →
      set.contains (hand_of g place) card ≡ true → place ≢ before → place ≢ holder → Rules (without g card)
  rules_stay g card place apart rules held not_before not_holder =
      rules_without g card rules (two_cards g card second place holder apart held
      (rules.held second (set.contains-insert card_cmp_total set.empty second second
      ∙ or_left _ _ (tied second second refl))) not_holder)

  -- what is so with fewer cards
  abbrev Fewer : ℕ → Type 0
  Fewer n = (g : Hands) → cards_left (at g strain holder []) ≤ n → Waits g → Next g

  module _ (leader : Place) where
    -- the player before led the best trump
    best_led : (g : Hands) (a : Card) → leader ≡ before → IsPosition (at g strain leader (a ∷ [])) →
        2 < cards_left (at g strain leader (a ∷ [])) → set.contains (hand_of g holder) guard ≡ true → Rules g →
        Takes (at g strain leader (a ∷ []))
    best_led g a first valid some guarded rules =
        let p = at g strain leader (a ∷ []) in
        keeps p valid (ap left_of first) guarded (λ b may not.
        let less = one_less_after p b valid may in
        goes_on (side_of holder) 1 p b valid may (omega arith)
        (two_more Rules (without g b) leader a b first (position_after p b valid may) (omega (arith, less, some))
        (rules_without g b rules not) rules_stay (λ k fewer. rules_next k)))

    -- the player before led another card, and the second best wins the trick
    second_wins : (g : Hands) (a : Card) → leader ≡ before → IsPosition (at g strain leader (a ∷ [])) →
        2 < cards_left (at g strain leader (a ∷ [])) → Waits g →
        strength_in strain a a < strength_in strain a second →
        set.contains (legal (at g strain leader (a ∷ []))) second ≡ true →
        CardTakes (side_of holder) 1 (at g strain leader (a ∷ [])) second
    second_wins g a first valid some waits lower may =
        let p = at g strain leader (a ∷ []) in
        let q = after p second in
        let valid' = position_after p second valid may in
        let less = one_less_after p second valid may in
        let third = left_of (left_of leader) in
        goes_on (side_of holder) 1 p second valid may (omega arith)
        (all_play (side_of holder) 1 q valid' (omega (arith, less, some)) (λ c may'.
        let held = (without_had g second c third (held_by q c may')).0 in
        let enemy = λ (e : side_of third ≡ side_of holder).
        opponents before (sym (sym (ap side_of first) ∙ sym (partners leader) ∙ e)) in
        let not_best = two_cards g c best third before valid.apart held waits.right
        (λ e. turns_2 leader (first ∙ sym e)) in
        let less' = one_less_after q c valid' may' in
        let r = after q c in
        let valid'' = position_after q c valid' may' in
        goes_on (side_of holder) 1 q c valid' may' (omega arith)
        (all_play (side_of holder) 1 r valid'' (omega (arith, less, less', some)) (λ d may''.
        trick_won (side_of holder) 0 (without (without g second) c) strain leader a second c d valid'' may''
        (side_of_second leader _ _ _ _ lower (beaten g a c third waits enemy held not_best)
        ∙ ap side_of (ap left_of first))
        (takes_none (side_of holder) (after r d) (position_after r d valid'' may''))))))

    -- the player before led another card
    other_led : (n : ℕ) (g : Hands) (a : Card) → leader ≡ before → IsPosition (at g strain leader (a ∷ [])) →
        2 < cards_left (at g strain leader (a ∷ [])) → cards_left (at g strain leader (a ∷ [])) ≤ n → Waits g →
        strength_in strain a a < strength_in strain a second → Fewer n → Takes (at g strain leader (a ∷ []))
    other_led n g a first valid some few waits lower next =
        let p = at g strain leader (a ∷ []) in
        beats p valid (ap left_of first) waits.held (second_wins g a first valid some waits lower)
        (λ b may not not'.
        let less = one_less_after p b valid may in
        let not_best = two_cards g b best (left_of leader) before valid.apart (held_by p b may) waits.right
        (λ e. turns_1 leader (first ∙ sym e)) in
        goes_on (side_of holder) 1 p b valid may (omega arith)
        (two_more Waits (without g b) leader a b first (position_after p b valid may) (omega (arith, less, some))
        (waits_without g b waits not_best not not') waits_stay
        (λ k fewer. next k (omega (arith, few, fewer, less)))))

    -- the player before leads
    from_before : (n : ℕ) (h : Hands) → leader ≡ before → cards_left (at h strain leader []) ≤ suc n →
        IsPosition (at h strain leader []) → Waits h → Fewer n → Takes (at h strain leader [])
    from_before n h first few valid waits next =
        let p = at h strain leader [] in
        let some = some_left p holder second waits.held in
        let four = four_times p valid in
        let not_holder = λ (e : leader ≡ holder). turns_1 leader (e ∙ sym (ap left_of first)) in
        let enemy = λ (e : side_of leader ≡ side_of holder).
        opponents before (sym (sym (ap side_of first) ∙ e)) in
        all_play (side_of holder) 1 p valid some (λ a may.
        let held = held_by p a may in
        let less = one_less_after p a valid may in
        let valid' = position_after p a valid may in
        let not_second = two_cards h a second leader holder valid.apart held waits.held not_holder in
        let not_guard = two_cards h a guard leader holder valid.apart held waits.guarded not_holder in
        goes_on (side_of holder) 1 p a valid may (omega arith)
        (elim (cards_same a best) [
          | inl same ↦ best_led (without h a) a first valid' (omega (arith, less, four, some))
              (has_without h a guard holder waits.guarded (λ e. not_guard (sym e)))
              (rules_then h a waits same not_second)
          | inr other ↦ other_led n (without h a) a first valid' (omega (arith, less, four, some))
              (omega (arith, less, few)) (waits_without h a waits other not_second not_guard)
              (beaten h a a leader waits enemy held other) next
        ]))

    -- the player before played to the trick, and the player is the last to do so
    last_hand : (n : ℕ) (h : Hands) (a b c : Card) → left_of (left_of leader) ≡ before →
        IsPosition (at h strain leader (a ∷ b ∷ c ∷ [])) → cards_left (at h strain leader (a ∷ b ∷ c ∷ [])) ≤ suc n →
        Waits h → strength_in strain a a < strength_in strain a second →
        strength_in strain a c < strength_in strain a second → Fewer n →
        Takes (at h strain leader (a ∷ b ∷ c ∷ []))
    last_hand n h a b c third valid few waits first lower next =
        let p = at h strain leader (a ∷ b ∷ c ∷ []) in
        beats p valid (ap left_of third) waits.held
        (λ may. trick_won (side_of holder) 0 h strain leader a b c second valid may
        (side_of_fourth leader _ _ _ _ first lower
        ∙ sym (partners (left_of leader)) ∙ ap side_of (ap left_of third))
        (takes_none (side_of holder) (after p second) (position_after p second valid may)))
        (λ d may not not'.
        let not_best = two_cards h d best (left_of (left_of (left_of leader))) before valid.apart (held_by p d may)
        waits.right (λ e. turns_1 (left_of (left_of leader)) (third ∙ sym e)) in
        last_card h leader a b c d valid may
        (next (without h d) (omega (arith, few, one_less_after p d valid may))
        (waits_without h d waits not_best not not')))

    -- the player before plays to the trick
    third_hand : (n : ℕ) (h : Hands) (a b : Card) → left_of (left_of leader) ≡ before →
        IsPosition (at h strain leader (a ∷ b ∷ [])) → 1 < cards_left (at h strain leader (a ∷ b ∷ [])) →
        cards_left (at h strain leader (a ∷ b ∷ [])) ≤ suc n → Waits h →
        strength_in strain a a < strength_in strain a second → Fewer n → Takes (at h strain leader (a ∷ b ∷ []))
    third_hand n h a b third valid some few waits first next =
        let p = at h strain leader (a ∷ b ∷ []) in
        let place = left_of (left_of leader) in
        let not_holder = λ (e : place ≡ holder). turns_1 place (e ∙ sym (ap left_of third)) in
        let enemy = λ (e : side_of place ≡ side_of holder). opponents before (sym (sym (ap side_of third) ∙ e)) in
        all_play (side_of holder) 1 p valid (omega (arith, some)) (λ c may.
        let held = held_by p c may in
        let less = one_less_after p c valid may in
        let valid' = position_after p c valid may in
        let not_second = two_cards h c second place holder valid.apart held waits.held not_holder in
        let not_guard = two_cards h c guard place holder valid.apart held waits.guarded not_holder in
        goes_on (side_of holder) 1 p c valid may (omega arith)
        (elim (cards_same c best) [
          | inl same ↦ keeps (after p c) valid' (ap left_of third)
              (has_without h c guard holder waits.guarded (λ e. not_guard (sym e)))
              (λ d may' not. last_card (without h c) leader a b c d valid' may'
              (rules_next (without (without h c) d)
              (rules_without (without h c) d (rules_then h c waits same not_second) not)))
          | inr other ↦ last_hand n (without h c) a b c third valid' (omega (arith, few, less))
              (waits_without h c waits other not_second not_guard) first
              (beaten h a c place waits enemy held other) next
        ]))

    -- the player at the left leads
    from_left : (n : ℕ) (h : Hands) → left_of (left_of leader) ≡ before → cards_left (at h strain leader []) ≤ suc n →
        IsPosition (at h strain leader []) → Waits h → Fewer n → Takes (at h strain leader [])
    from_left n h third few valid waits next =
        let p = at h strain leader [] in
        let some = some_left p holder second waits.held in
        let four = four_times p valid in
        let not_before = λ (e : leader ≡ before). turns_2 leader (e ∙ sym third) in
        let not_holder = λ (e : leader ≡ holder). turns_3 leader (e ∙ sym (ap left_of third)) in
        let enemy = λ (e : side_of leader ≡ side_of holder).
        opponents before (sym (sym (ap side_of third) ∙ partners leader ∙ e)) in
        all_play (side_of holder) 1 p valid some (λ a may.
        let held = held_by p a may in
        let less = one_less_after p a valid may in
        let q = after p a in
        let valid' = position_after p a valid may in
        let not_best = two_cards h a best leader before valid.apart held waits.right not_before in
        let waits' = waits_stay h a leader valid.apart waits held not_before not_holder in
        goes_on (side_of holder) 1 p a valid may (omega arith)
        (all_play (side_of holder) 1 q valid' (omega (arith, less, four, some)) (λ b may'.
        let less' = one_less_after q b valid' may' in
        goes_on (side_of holder) 1 q b valid' may' (omega arith)
        (third_hand n (without (without h a) b) a b third (position_after q b valid' may')
        (omega (arith, less, less', four, some)) (omega (arith, few, less, less'))
        (waits_stay (without h a) b (left_of leader) valid'.apart waits' (held_by q b may')
        (λ e. turns_1 (left_of leader) (e ∙ sym third)) (λ e. turns_2 (left_of leader) (e ∙ sym (ap left_of third))))
        (beaten h a a leader waits enemy held not_best) next))))

  pub taken : (n : ℕ) (h : Hands) → cards_left (at h strain holder []) ≤ n → Waits h → Next h
  taken zero h few waits leader valid ne =
      absurd (omega (arith, few, some_left (at h strain holder []) holder second waits.held))
  taken (suc n) h few waits leader valid ne =
      elim (leaders leader before ne) [
        | inl first ↦ from_before leader n h first few valid waits (taken n)
        | inr third ↦ from_left leader n h third few valid waits (taken n)
      ]
