-- A side takes so many tricks at least: from card to card.
use Rattle.std.proofs.Common.{◌≡◌, ◌≢◌, ◌⊎◌, ℕ, ◌+◌, ◌*◌, ◌<◌, ◌≤◌, true, List, [], ◌∷◌, map, length, refl, sym, ap, ◌∙◌, subst, inl, inr, arith, zero, suc}
use Rattle.std.specs.List.{list_any}
use Rattle.std.specs.Ordering.{eq_by_cmp}
use Rattle.std.proofs.lemmas.Bool.{and_from, and_parts, cases_Bool, cases_eq, false_from_ne_true, not-true, not_from_false, true≢false}
use Rattle.std.specs.FinSet as set
use Rattle.cards.specs.declared.card.Card.{Card}
use Rattle.cards.specs.Card.{card_cmp}
use Rattle.cards.specs.CardBits.{card_cmp_total, tied_is_equal}
use Rattle.cards.specs.Cards.{Cards}
use Rattle.cards.proofs.CardBitsLemmas.{same_cards}
use Rattle.table_terms.specs.declared.place.Place.{Place}
use Rattle.table_terms.specs.declared.place.Place.TheVariants.{North, East, South, West}
use Rattle.table_terms.specs.declared.side.Side.{Side}
use Rattle.table_terms.specs.declared.side.Side.TheVariants.{NorthSouth, EastWest}
use Rattle.table_terms.specs.declared.strain.Strain.{Strain}
use Rattle.table_terms.specs.Place.{left_of, side_of}
use Rattle.cards.specs.Hands.{Hands, hand_of}
use Rattle.cards.specs.Play.{IsPosition, IsUnderWay, Position, after, cards_left, legal, point_of, table_after, to_play, trick_for, winner}
use Rattle.cards.specs.DoubleDummy.{best, double_dummy, tricks, worth}
use Rattle.cards.proofs.PlayLemmas.{can_play, has_some}
use Rattle.double_dummy_laws.proofs.BestLemmas.{Among, attained}
use Rattle.double_dummy_laws.proofs.CountLemmas.{has_less}
use Rattle.double_dummy_laws.proofs.DoubleDummyLemmas.{best_card, east_west_gains_nothing, north_south_gains_nothing}
use Rattle.double_dummy_laws.proofs.HandLemmas.{among_items, items_among, legal_follows, tied}
use Rattle.double_dummy_laws.proofs.NeighbourLemmas.{one_less_after}
use Rattle.double_dummy_laws.proofs.RenamingLemmas.{worth_in}
use Rattle.double_dummy_laws.specs.SureTricks.{TakesAtLeast}

-- a trick is one
one_trick : (side : Side) → trick_for side ≤ 1
one_trick NorthSouth = omega arith
one_trick EastWest = omega arith

trick_bound : (n : ℕ) (strain : Strain) (leader : Place) (table : List Card) (card : Card) (rest : ℕ) →
    length table ≤ 3 → 4 * rest ≤ n + length (table_after table card) →
    4 * (point_of strain leader table card + rest) ≤ suc n + length table
trick_bound n strain leader [] card rest small below = omega arith
trick_bound n strain leader (a ∷ []) card rest small below = omega arith
trick_bound n strain leader (a ∷ b ∷ []) card rest small below = omega arith
trick_bound n strain leader (a ∷ b ∷ c ∷ []) card rest small below =
    omega (arith, one_trick (side_of (winner strain leader a b c card)))
trick_bound n strain leader (a ∷ b ∷ c ∷ d ∷ more) card rest small below = absurd (omega arith)

short_after : (table : List Card) (card : Card) → length (table_after table card) ≤ 3
short_after [] card = omega arith
short_after (a ∷ []) card = omega arith
short_after (a ∷ b ∷ []) card = omega arith
short_after (a ∷ b ∷ c ∷ rest) card = omega arith

best_bound : (side : Side) (v : Card → ℕ) (bound : ℕ) (cards : List Card) → ((card : Card) → 4 * v card ≤ bound) →
    4 * best side (map v cards) ≤ bound
best_bound side v bound [] each = omega arith
best_bound side v bound (first ∷ rest) each = let top = attained side v first rest in omega (arith, top.2, each top.0)

-- no more tricks than a quarter of the cards
pub tricks_bound : (n : ℕ) (p : Position) → length p.table ≤ 3 → 4 * tricks n p ≤ n + length p.table
unfolding tricks
tricks_bound zero p small = omega arith
tricks_bound (suc n) p small =
    best_bound (side_of (to_play p)) (worth_in n p) (suc n + length p.table) (set.items (legal p))
    (λ card. trick_bound n p.strain p.leader p.table card (tricks n (after p card)) small
    (tricks_bound n (after p card) (short_after p.table card)))

-- a trick under way has at most three cards
pub under_way_short : (hands : Hands) (table : List Card) → IsUnderWay hands table → length table ≤ 3
under_way_short hands [] trick = omega arith
under_way_short hands (a ∷ []) trick = omega arith
under_way_short hands (a ∷ b ∷ []) trick = omega arith
under_way_short hands (a ∷ b ∷ c ∷ []) trick = omega arith
under_way_short hands (a ∷ b ∷ c ∷ d ∷ rest) none = absurd none

-- with a card, a side takes so many tricks at least
abbrev pub CardTakes : Side → ℕ → Position → Card → Type 0
CardTakes NorthSouth k p card = k ≤ worth p card
CardTakes EastWest k p card = 4 * (worth p card + k) ≤ cards_left p + length p.table

-- no trick is taken for certain
pub takes_none : (side : Side) (p : Position) → IsPosition p → TakesAtLeast side 0 p
takes_none NorthSouth p valid = omega arith
takes_none EastWest p valid = omega (arith, tricks_bound (cards_left p) p (under_way_short p.hands p.table valid.trick))

-- the player may choose one card
pub one_plays : (side : Side) (k : ℕ) (p : Position) (card : Card) → IsPosition p →
    set.contains (legal p) card ≡ true → side_of (to_play p) ≡ side → CardTakes side k p card → TakesAtLeast side k p
one_plays NorthSouth k p card valid may is takes = omega (arith, takes, north_south_gains_nothing p card valid may is)
one_plays EastWest k p card valid may is takes = omega (arith, takes, east_west_gains_nothing p card valid may is)

attained_among : (side : Side) (v : Card → ℕ) (cards : List Card) (some : Card) → Among some cards →
    (card : Card) × Among card cards × (v card ≡ best side (map v cards))
attained_among side v [] some none = absurd none
attained_among side v (first ∷ rest) some among = attained side v first rest

-- a position is worth what some legal card is
worth_attained : (p : Position) → IsPosition p → 0 < cards_left p →
    (card : Card) × (set.contains (legal p) card ≡ true) × (worth p card ≡ double_dummy p)
worth_attained p valid some =
    let any = can_play p valid (λ none. omega arith) in
    let top = attained_among (side_of (to_play p)) (worth p) (set.items (legal p)) any.0
    (among_items (legal p) any.0 any.1) in
    (top.0, items_among (legal p) top.0 top.1, top.2 ∙ sym (best_card p valid some))

-- whatever card is played
pub all_play : (side : Side) (k : ℕ) (p : Position) → IsPosition p → 0 < cards_left p →
    ((card : Card) → set.contains (legal p) card ≡ true → CardTakes side k p card) → TakesAtLeast side k p
all_play NorthSouth k p valid some each =
    let top = worth_attained p valid some in omega (arith, each top.0 top.1, top.2)
all_play EastWest k p valid some each =
    let top = worth_attained p valid some in omega (arith, each top.0 top.1, top.2)

early : (strain : Strain) (leader : Place) (table : List Card) (card : Card) → length table ≤ 2 →
    (point_of strain leader table card ≡ 0) × (length (table_after table card) ≡ suc (length table))
early strain leader [] card short = (refl, refl)
early strain leader (a ∷ []) card short = (refl, refl)
early strain leader (a ∷ b ∷ []) card short = (refl, refl)
early strain leader (a ∷ b ∷ c ∷ rest) card short = absurd (omega arith)

-- a card that completes no trick
pub goes_on : (side : Side) (k : ℕ) (p : Position) (card : Card) → IsPosition p → set.contains (legal p) card ≡ true →
    length p.table ≤ 2 → TakesAtLeast side k (after p card) → CardTakes side k p card
goes_on NorthSouth k p card valid may short takes = omega (arith, takes)
goes_on EastWest k p card valid may short takes =
    let facts = early p.strain p.leader p.table card short in
    omega (arith, takes, facts.0, facts.1, one_less_after p card valid may)

-- a card that completes a trick of the side
pub trick_won : (side : Side) (k : ℕ) (h : Hands) (strain : Strain) (leader : Place) (a b c d : Card) →
    let p : Position = record { hands = h; strain = strain; leader = leader; table = a ∷ b ∷ c ∷ [] } in
    IsPosition p → set.contains (legal p) d ≡ true → side_of (winner strain leader a b c d) ≡ side →
    TakesAtLeast side k (after p d) → CardTakes side (suc k) p d
trick_won NorthSouth k h strain leader a b c d valid may is takes =
    omega (arith, takes, ap trick_for is)
trick_won EastWest k h strain leader a b c d valid may is takes =
    omega (arith, takes, ap trick_for is, one_less_after (record { hands = h; strain = strain; leader = leader; table = a ∷ b ∷ c ∷ [] }) d valid may)

-- a card that completes a trick of whichever side
pub trick_over : (side : Side) (k : ℕ) (h : Hands) (strain : Strain) (leader : Place) (a b c d : Card) →
    let p : Position = record { hands = h; strain = strain; leader = leader; table = a ∷ b ∷ c ∷ [] } in
    IsPosition p → set.contains (legal p) d ≡ true →
    TakesAtLeast side k (after p d) → CardTakes side k p d
trick_over NorthSouth k h strain leader a b c d valid may takes =
    omega (arith, takes)
trick_over EastWest k h strain leader a b c d valid may takes =
    omega (arith, takes, one_trick (side_of (winner strain leader a b c d)), one_less_after (record { hands = h; strain = strain; leader = leader; table = a ∷ b ∷ c ∷ [] }) d valid may)

-- a set that is not empty has a card
pub some_of : (cards : Cards) → (set.len cards ≡ 0 → ⊥) → (card : Card) × (set.contains cards card ≡ true)
some_of cards some = of_items (set.items cards) refl
  where
    of_items : (items : List Card) → set.items cards ≡ items → (card : Card) × (set.contains cards card ≡ true)
    of_items [] none = absurd (some (ap set.len (same_cards cards set.empty (λ card.
        set.contains-items cards card ∙ ap (list_any (eq_by_cmp card_cmp card)) none
        ∙ sym (set.contains-empty card_cmp card))) ∙ set.len-empty card_cmp))
    of_items (first ∷ rest) is = (first, items_among cards first (subst (Among first) (sym is) (inl refl)))

-- what is left of a set without a card
pub removed_had : (cards : Cards) (gone card : Card) → set.contains (set.remove cards gone) card ≡ true →
    (set.contains cards card ≡ true) × (card ≢ gone)
removed_had cards gone card held =
    let parts = and_parts _ _ (sym (set.contains-remove card_cmp_total cards gone card) ∙ held) in
    (parts.1, λ e. true≢false (sym (tied card gone e) ∙ not-true _ parts.0))

-- where a player has a card, cards are left
pub some_left : (p : Position) (place : Place) (card : Card) → set.contains (hand_of p.hands place) card ≡ true →
    0 < cards_left p
some_left p North card held = omega (arith, has_some p.hands.north card held)
some_left p East card held = omega (arith, has_some p.hands.east card held)
some_left p South card held = omega (arith, has_some p.hands.south card held)
some_left p West card held = omega (arith, has_some p.hands.west card held)

-- a card that is in both sets, or none
pub in_both : (cards others : Cards) →
    ((card : Card) × (set.contains cards card ≡ true) × (set.contains others card ≡ true))
    ⊎ ((card : Card) → set.contains cards card ≡ true → set.contains others card ≡ true → ⊥)
in_both cards others =
    elim (look (set.items cards)) [
      | inl found ↦ inl (found.0, items_among cards found.0 found.1, found.2)
      | inr none ↦ inr (λ card in' also. none card (among_items cards card in') also)
    ]
  where
    look : (items : List Card) → ((card : Card) × Among card items × (set.contains others card ≡ true))
        ⊎ ((card : Card) → Among card items → set.contains others card ≡ true → ⊥)
    look [] = inr (λ card none also. none)
    look (first ∷ rest) =
        elim (cases_Bool (set.contains others first)) [
          | inl here ↦ inl (first, inl refl, here)
          | inr gone ↦ elim (look rest) [
            | inl found ↦ inl (found.0, inr found.1, found.2)
            | inr none ↦ inr (λ card among also. elim among [
              | inl e ↦ true≢false (sym also ∙ ap (set.contains others) e ∙ gone)
              | inr later ↦ none card later also
            ])
          ]
        ]

-- a position of these hands, with these cards on the table
abbrev pub at : Hands → Strain → Place → List Card → Position
at h strain leader table = record { hands = h; strain = strain; leader = leader; table = table }

-- the card that a player plays was in the player's hand
pub held_by : (p : Position) (card : Card) → set.contains (legal p) card ≡ true →
    set.contains (hand_of p.hands (to_play p)) card ≡ true
held_by p card may = (legal_follows (hand_of p.hands (to_play p)) p.table card may).0

-- a card of a set stays in it without another one
pub has_removed : (cards : Cards) (gone card : Card) → set.contains cards card ≡ true → card ≢ gone →
    set.contains (set.remove cards gone) card ≡ true
has_removed cards gone card in' other =
    set.contains-remove card_cmp_total cards gone card
    ∙ and_from _ _ (not_from_false _ (false_from_ne_true _ (λ t. other (tied_is_equal card gone t)))) in'

-- where each card of a set has its own partner in another, the other has as many
pub paired_len : (n : ℕ) (R : Card → Card → Type 0) (s t : Cards) → set.len s ≤ n →
    ((card : Card) → set.contains s card ≡ true → (other : Card) × (set.contains t other ≡ true) × R card other) →
    ((a b c : Card) → set.contains s a ≡ true → set.contains s b ≡ true → R a c → R b c → a ≡ b) →
    set.len s ≤ set.len t
paired_len zero R s t few pair single = omega (arith, few)
paired_len (suc n) R s t few pair single =
    elim (cases_eq (set.len s) 0) [
      | inl none ↦ omega (arith, none)
      | inr some ↦
          let one = some_of s some in
          let to = pair one.0 one.1 in
          let rest = paired_len n R (set.remove s one.0) (set.remove t to.0)
          (omega (arith, few, has_less s one.0 one.1))
          (λ card in'.
          let had = removed_had s one.0 card in' in
          let there = pair card had.0 in (
            there.0,
            has_removed t to.0 there.0 there.1
                (λ e. had.1 (single card one.0 there.0 had.0 one.1 there.2 (subst (R one.0) (sym e) to.2))),
            there.2,
          ))
          (λ a b c in_a in_b. single a b c (removed_had s one.0 a in_a).0 (removed_had s one.0 b in_b).0) in
          omega (arith, rest, has_less s one.0 one.1, has_less t to.0 to.1)
    ]

-- a set has at most as many cards as another that has all of them
pub within : (s t : Cards) →
    ((card : Card) → set.contains s card ≡ true → set.contains t card ≡ true) → set.len s ≤ set.len t
within s t each =
    paired_len (set.len s) (λ a b. a ≡ b) s t (omega arith) (λ card in'. (card, each card in', refl))
    (λ a b c in_a in_b e f. e ∙ sym f)

-- and fewer, if the other has one more
pub fewer_within : (s t : Cards) (card : Card) →
    ((other : Card) → set.contains s other ≡ true → set.contains t other ≡ true) → set.contains t card ≡ true →
    (set.contains s card ≡ true → ⊥) → set.len s < set.len t
fewer_within s t card each in' out =
    omega (
      arith,
      has_less t card in',
      within s (set.remove t card) (λ other there.
          has_removed t card other (each other there)
          (λ e. out (subst (λ x. set.contains s x ≡ true) e there))),
    )

-- a player leads, or plays second, third or fourth
pub seat : (leader holder : Place) →
    (holder ≡ leader) ⊎ ((holder ≡ left_of leader) ⊎ ((holder ≡ left_of (left_of leader))
    ⊎ (holder ≡ left_of (left_of (left_of leader)))))
seat North North = inl refl
seat North East = inr (inl refl)
seat North South = inr (inr (inl refl))
seat North West = inr (inr (inr refl))
seat East North = inr (inr (inr refl))
seat East East = inl refl
seat East South = inr (inl refl)
seat East West = inr (inr (inl refl))
seat South North = inr (inr (inl refl))
seat South East = inr (inr (inr refl))
seat South South = inl refl
seat South West = inr (inl refl)
seat West North = inr (inl refl)
seat West East = inr (inr (inl refl))
seat West South = inr (inr (inr refl))
seat West West = inl refl

-- the cards of a trick came from these hands, from the leader's on, one each
pub record AreFrom (h : Hands) (leader : Place) (a b c d : Card) : Type 0 where
  pub first : set.contains (hand_of h leader) a ≡ true
  pub second : set.contains (hand_of h (left_of leader)) b ≡ true
  pub third : set.contains (hand_of h (left_of (left_of leader))) c ≡ true
  pub fourth : set.contains (hand_of h (left_of (left_of (left_of leader)))) d ≡ true
  pub ba : b ≢ a
  pub ca : c ≢ a
  pub cb : c ≢ b
  pub da : d ≢ a
  pub db : d ≢ b
  pub dc : d ≢ c
