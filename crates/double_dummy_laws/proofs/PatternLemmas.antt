-- Positions of one pattern are alike.
use Rattle.std.proofs.Common.{
  ◌≡◌,
  ℕ,
  ◌<◌,
  Bool,
  true,
  ◌⊎◌,
  List,
  [],
  ◌∷◌,
  refl,
  sym,
  ap,
  ◌∙◌,
  subst,
  inl,
  inr,
  arith,
  length,
  Option,
  Some,
  None,
}
use Rattle.std.specs.Prelude.{nat_lt, ◌&&◌}
use Rattle.std.proofs.lemmas.Bool.{cases_Bool, and_parts, ltb-true, or_cases, cond-true, cond-false, false_from_ne_true}
use Rattle.cards.specs.declared.card.Card.{Card}
use Rattle.table_terms.specs.declared.suit.Suit.{Suit}
use Rattle.cards.specs.declared.rank.Rank.{Rank}
use Rattle.table_terms.specs.declared.place.Place.{Place}
use Rattle.table_terms.specs.declared.place.Place.TheVariants.{North, East, South, West}
use Rattle.cards.specs.Cards.{Cards}
use Rattle.cards.specs.Hands.{Hands, hand_of}
use Rattle.cards.specs.CardBits.{each_rank}
use Rattle.cards.specs.Rank.{height, ranks_down}
use Rattle.std.specs.FinSet as set
use Rattle.cards.specs.Play.{IsApart, Position, cards_left}
use Rattle.double_dummy_laws.proofs.AlikeLemmas.{found_alike, IsAlike}
use Rattle.double_dummy_laws.proofs.PairingLemmas.{
  AreDistinct,
  In,
  IsDown,
  IsOrdered,
  Pairing,
  like_apart,
  like_in,
  like_into,
  like_onto,
  like_order,
  like_top,
  pair_up,
}
use Rattle.double_dummy_laws.specs.Found.{IsFound}
use Rattle.double_dummy_laws.specs.Pattern.{Held, IsOfPattern, IsTop, held_before, held_of, holder_of, holding}

holder_held : (hands : Hands) (card : Card) (place : Place) → holder_of hands card ≡ Some place →
    set.contains (hand_of hands place) card ≡ true
unfolding holder_of
holder_held hands card place e =
    elim (cases_Bool (set.contains hands.north card)) [
      | inl n ↦ is North n (sym (cond-true _ _ _ n) ∙ e)
      | inr nn ↦ elim (cases_Bool (set.contains hands.east card)) [
        | inl h ↦ is East h (sym (cond-false _ _ _ nn ∙ cond-true _ _ _ h) ∙ e)
        | inr ne ↦ elim (cases_Bool (set.contains hands.south card)) [
          | inl h ↦ is South h (sym (cond-false _ _ _ nn ∙ cond-false _ _ _ ne ∙ cond-true _ _ _ h) ∙ e)
          | inr ns ↦ elim (cases_Bool (set.contains hands.west card)) [
            | inl h ↦ is West h (sym (cond-false _ _ _ nn ∙ cond-false _ _ _ ne ∙ cond-false _ _ _ ns
                ∙ cond-true _ _ _ h) ∙ e)
            | inr nw ↦ absurd (none_some place
                (sym (cond-false _ _ _ nn ∙ cond-false _ _ _ ne ∙ cond-false _ _ _ ns ∙ cond-false _ _ _ nw) ∙ e))
          ]
        ]
      ]
    ]
  where
    is : (at : Place) → set.contains (hand_of hands at) card ≡ true → Some at ≡ Some place →
        set.contains (hand_of hands place) card ≡ true
    is at held e = let same : at ≡ place = cc in subst (λ p. set.contains (hand_of hands p) card ≡ true) same held

    none_some : (place : Place) → None ≡ Some place → ⊥
    none_some place e = cc

pub held_holder : (hands : Hands) (card : Card) (place : Place) → IsApart hands →
    set.contains (hand_of hands place) card ≡ true → holder_of hands card ≡ Some place
unfolding holder_of
held_holder hands card North apart held = cond-true _ _ _ held
held_holder hands card East apart held =
    cond-false _ _ _ (false_from_ne_true _ (λ n. differ (apart North East card n held))) ∙ cond-true _ _ _ held
  where
    differ : North ≡ East → ⊥
    differ e = cc
held_holder hands card South apart held =
    cond-false _ _ _ (false_from_ne_true _ (λ n. one (apart North South card n held)))
    ∙ cond-false _ _ _ (false_from_ne_true _ (λ n. two (apart East South card n held))) ∙ cond-true _ _ _ held
  where
    one : North ≡ South → ⊥
    one e = cc

    two : East ≡ South → ⊥
    two e = cc
held_holder hands card West apart held =
    cond-false _ _ _ (false_from_ne_true _ (λ n. one (apart North West card n held)))
    ∙ cond-false _ _ _ (false_from_ne_true _ (λ n. two (apart East West card n held)))
    ∙ cond-false _ _ _ (false_from_ne_true _ (λ n. three (apart South West card n held))) ∙ cond-true _ _ _ held
  where
    one : North ≡ West → ⊥
    one e = cc

    two : East ≡ West → ⊥
    two e = cc

    three : South ≡ West → ⊥
    three e = cc

-- the ranks of a list, from the top down
all_below : ℕ → List Rank → Bool
all_below high [] = true
all_below high (rank ∷ ranks) = nat_lt (height rank) high && all_below high ranks

are_down : List Rank → Bool
are_down [] = true
are_down (rank ∷ ranks) = all_below (height rank) ranks && are_down ranks

AmongRanks : Rank → List Rank → Type 0
AmongRanks rank [] = ⊥
AmongRanks rank (first ∷ ranks) = (rank ≡ first) ⊎ AmongRanks rank ranks

-- what stands in a suit's list is held
of_first : (hands : Hands) (suit : Suit) (first card : Card) (place : Place) (holder : Option Place)
    (rest : List Held) → holder_of hands first ≡ holder → first.suit ≡ suit →
    (In card place rest → (holder_of hands card ≡ Some place) × (card.suit ≡ suit)) →
    In card place (held_before first holder rest) → (holder_of hands card ≡ Some place) × (card.suit ≡ suit)
of_first hands suit first card place None rest e of_suit others more = others more
of_first hands suit first card place (Some at) rest e of_suit others (inl here) =
    (ap (holder_of hands) (sym here.0) ∙ e ∙ ap Some here.1, ap (λ c. c.suit) (sym here.0) ∙ of_suit)
of_first hands suit first card place (Some at) rest e of_suit others (inr more) = others more

in_held : (hands : Hands) (suit : Suit) (ranks : List Rank) (card : Card) (place : Place) →
    In card place (held_of hands suit ranks) →
    (holder_of hands card ≡ Some place) × (card.suit ≡ suit)
in_held hands suit [] card place none = absurd none
in_held hands suit (rank ∷ ranks) card place in' =
    of_first hands suit (record { suit = suit; rank = rank }) card place _ (held_of hands suit ranks) refl refl
    (in_held hands suit ranks card place) in'

-- and what is held stands in its suit's list
first_in : (card : Card) (place : Place) (holder : Option Place) (rest : List Held) → holder ≡ Some place →
    In card place (held_before card holder rest)
first_in card place holder rest e = subst (λ h. In card place (held_before card h rest)) (sym e) (inl (refl, refl))

later_in : (first card : Card) (place : Place) (holder : Option Place) (rest : List Held) → In card place rest →
    In card place (held_before first holder rest)
later_in first card place None rest more = more
later_in first card place (Some at) rest more = inr more

held_in : (hands : Hands) (suit : Suit) (ranks : List Rank) (rank : Rank) (place : Place) → AmongRanks rank ranks →
    holder_of hands (record { suit = suit; rank = rank }) ≡ Some place →
    In (record { suit = suit; rank = rank }) place (held_of hands suit ranks)
unfolding AmongRanks
held_in hands suit [] rank place none e = absurd none
held_in hands suit (first ∷ ranks) rank place (inl same) e =
    subst (λ r. In (record { suit = suit; rank = rank }) place
    (held_before (record { suit = suit; rank = r }) (holder_of hands (record { suit = suit; rank = r }))
    (held_of hands suit ranks))) same
    (first_in (record { suit = suit; rank = rank }) place (holder_of hands (record { suit = suit; rank = rank }))
    (held_of hands suit ranks) e)
held_in hands suit (first ∷ ranks) rank place (inr more) e =
    later_in (record { suit = suit; rank = first }) _ place (holder_of hands (record { suit = suit; rank = first }))
    (held_of hands suit ranks) (held_in hands suit ranks rank place more e)

every_rank : (rank : Rank) → AmongRanks rank ranks_down
unfolding AmongRanks ranks_down
every_rank = each_rank (λ rank. AmongRanks rank ranks_down)
    (inr (inr (inr (inr (inr (inr (inr (inr (inr (inr (inr (inr (inl refl)))))))))))))
    (inr (inr (inr (inr (inr (inr (inr (inr (inr (inr (inr (inl refl))))))))))))
    (inr (inr (inr (inr (inr (inr (inr (inr (inr (inr (inl refl)))))))))))
    (inr (inr (inr (inr (inr (inr (inr (inr (inr (inl refl))))))))))
    (inr (inr (inr (inr (inr (inr (inr (inr (inl refl)))))))))
    (inr (inr (inr (inr (inr (inr (inr (inl refl))))))))
    (inr (inr (inr (inr (inr (inr (inl refl)))))))
    (inr (inr (inr (inr (inr (inl refl))))))
    (inr (inr (inr (inr (inl refl)))))
    (inr (inr (inr (inl refl))))
    (inr (inr (inl refl)))
    (inr (inl refl))
    (inl refl)

-- the list goes down
below_in : (high : ℕ) (hands : Hands) (suit : Suit) (ranks : List Rank) → all_below high ranks ≡ true →
    (card : Card) (place : Place) → In card place (held_of hands suit ranks) → height card.rank < high
unfolding all_below
below_in high hands suit [] below card place none = absurd none
below_in high hands suit (rank ∷ ranks) below card place in' =
    let parts = and_parts _ _ below in
    below_first (record { suit = suit; rank = rank }) (holder_of hands (record { suit = suit; rank = rank }))
    (held_of hands suit ranks) (ltb-true _ _ parts.0)
    (below_in high hands suit ranks parts.1 card place) in'
  where
    below_first : (first : Card) (holder : Option Place) (rest : List Held) → height first.rank < high →
        (In card place rest → height card.rank < high) →
        In card place (held_before first holder rest) → height card.rank < high
    below_first first None rest low others more = others more
    below_first first (Some at) rest low others (inl here) = subst (λ c. height c.rank < high) here.0 low
    below_first first (Some at) rest low others (inr more) = others more

goes_down : (hands : Hands) (suit : Suit) (ranks : List Rank) → are_down ranks ≡ true →
    IsDown (held_of hands suit ranks)
unfolding are_down
goes_down hands suit [] down = tt
goes_down hands suit (rank ∷ ranks) down =
    let parts = and_parts _ _ down in
    down_first (record { suit = suit; rank = rank }) (holder_of hands (record { suit = suit; rank = rank }))
    (held_of hands suit ranks)
    (below_in (height rank) hands suit ranks parts.0) (goes_down hands suit ranks parts.1)
  where
    down_first : (first : Card) (holder : Option Place) (rest : List Held) →
        ((card : Card) (place : Place) → In card place rest → height card.rank < height first.rank) → IsDown rest →
        IsDown (held_before first holder rest)
    down_first first None rest below others = others
    down_first first (Some at) rest below others = (below, others)

is_down : (hands : Hands) (suit : Suit) → IsDown (holding hands suit)
unfolding are_down all_below ranks_down
is_down hands suit = goes_down hands suit ranks_down refl

down_apart : (xs : List Held) → IsDown xs → AreDistinct xs
down_apart [] down = tt
down_apart (x ∷ xs) down = (λ place in'. absurd (omega (arith, down.0 x.card place in')), down_apart xs down.1)

in_top : (xs : List Held) (card : Card) (place : Place) → In card place xs → IsTop (length xs) xs card
in_top [] card place none = none
in_top (x ∷ xs) card place (inl here) = inl here.0
in_top (x ∷ xs) card place (inr more) = inr (in_top xs card place more)

-- a held card is one of its suit's cards
pub listed_top : (hands : Hands) → IsApart hands → (place : Place) (card : Card) →
    set.contains (hand_of hands place) card ≡ true →
    IsTop (length (holding hands card.suit)) (holding hands card.suit) card
listed_top hands apart place card held =
    in_top (holding hands card.suit) card place
    (held_in hands card.suit ranks_down card.rank place (every_rank card.rank)
    (held_holder hands card place apart held))

module _ (tops : Suit → ℕ) (p q : Position) (apart : IsApart p.hands) (apart' : IsApart q.hands)
    (pattern' : IsOfPattern tops p.hands q.hands) where
  paired : (suit : Suit) → (pairing : Pairing (holding p.hands suit) (holding q.hands suit)) × IsOrdered (tops suit)
      (holding p.hands suit) (holding q.hands suit) pairing
  paired suit = pair_up (tops suit) (holding p.hands suit) (holding q.hands suit) (pattern'.same_tops suit)
      (pattern'.same_lengths suit)

  like_by : Suit → Card → Card
  like_by suit card = like_in (holding p.hands suit) (holding q.hands suit) (paired suit).0 card

  pub like_of : Card → Card
  like_of card = like_by card.suit card

  distinct : (suit : Suit) → AreDistinct (holding p.hands suit)
  distinct suit = down_apart _ (is_down p.hands suit)

  distinct' : (suit : Suit) → AreDistinct (holding q.hands suit)
  distinct' suit = down_apart _ (is_down q.hands suit)

  listed : (hands : Hands) → IsApart hands → (place : Place) (card : Card) →
      set.contains (hand_of hands place) card ≡ true → In card place (holding hands card.suit)
  listed hands apart_hands place card held =
      held_in hands card.suit ranks_down card.rank place (every_rank card.rank)
      (held_holder hands card place apart_hands held)

  like_listed : (place : Place) (card : Card) → set.contains (hand_of p.hands place) card ≡ true →
      In (like_of card) place (holding q.hands card.suit)
  unfolding like_of like_by
  like_listed place card held = like_into _ _ (paired card.suit).0 (distinct card.suit) card place
      (listed p.hands apart place card held)

  like_suit : (place : Place) (card : Card) → set.contains (hand_of p.hands place) card ≡ true →
      (like_of card).suit ≡ card.suit
  like_suit place card held = (in_held q.hands card.suit ranks_down (like_of card) place
      (like_listed place card held)).1

  pub pattern_alike : (known : Cards) → q.strain ≡ p.strain → q.leader ≡ p.leader → p.table ≡ [] → q.table ≡ [] →
      cards_left p ≡ cards_left q →
      ((card : Card) → set.contains known card ≡ true → IsTop (tops card.suit) (holding p.hands card.suit) card) →
      IsAlike known p q like_of
  unfolding like_of like_by
  pattern_alike known strain leader table table' left is_top = record {
    strain = strain;
    leader = leader;
    first_table = table;
    second_table = table';
    left = left;
    suit = like_suit;
    into = λ place card held. holder_held q.hands (like_of card) place
        (in_held q.hands card.suit ranks_down (like_of card) place (like_listed place card held)).0;
    onto = λ place card held.
        let old = like_onto _ _ (paired card.suit).0 (distinct card.suit) card place
        (listed q.hands apart' place card held) in
        let of_old = in_held p.hands card.suit ranks_down old.0 place old.1 in
        (old.0, holder_held p.hands old.0 place of_old.0, (λ i. like_by (of_old.1 i) old.0) ∙ old.2);
    apart = λ x y a b held_a held_b e.
        let suits : b.suit ≡ a.suit = sym (like_suit y b held_b) ∙ ap (λ c. c.suit) (sym e) ∙ like_suit x a held_a in
        like_apart _ _ (paired a.suit).0 (distinct a.suit) (distinct' a.suit) a b x y (listed p.hands apart x a held_a)
        (subst (λ s. In b y (holding p.hands s)) suits (listed p.hands apart y b held_b))
        (e ∙ (λ i. like_by (suits i) b));
    order = λ x y a b held_a held_b known_ab ne suits less.
        let back : b.suit ≡ a.suit = sym suits in
        let lower = like_order (tops a.suit) _ _ (paired a.suit).0 (paired a.suit).1 (distinct a.suit)
        (is_down p.hands a.suit) (is_down q.hands a.suit) a b x y
        (listed p.hands apart x a held_a)
        (subst (λ s. In b y (holding p.hands s)) back (listed p.hands apart y b held_b))
        (elim (or_cases _ _ known_ab) [
          | inl k ↦ inl (is_top a k)
          | inr k ↦ inr (subst (λ s. IsTop (tops s) (holding p.hands s) b) back (is_top b k))
        ]) less in
        subst (λ c. height (like_by a.suit a).rank < height c.rank) (sym (λ i. like_by (back i) b)) lower;
  }

  -- and the top cards' likes are top cards
  pub like_is_top : (card : Card) (place : Place) → set.contains (hand_of p.hands place) card ≡ true →
      IsTop (tops card.suit) (holding p.hands card.suit) card →
      IsTop (tops (like_of card).suit) (holding q.hands (like_of card).suit) (like_of card)
  unfolding like_of like_by
  like_is_top card place held is_top =
      subst (λ s. IsTop (tops s) (holding q.hands s) (like_of card)) (sym (like_suit place card held))
      (like_top (tops card.suit) _ _ (paired card.suit).0 (paired card.suit).1 (distinct card.suit) card is_top)

-- the law of a partition: what was found out of a position, where no card below the tops mattered, holds of every
-- position with these lengths and tops
pub partition : (tops : Suit → ℕ) (p q : Position) (known more : Cards) (target : ℕ) (answer : Bool) →
    IsApart p.hands → IsApart q.hands → IsOfPattern tops p.hands q.hands →
    q.strain ≡ p.strain → q.leader ≡ p.leader → p.table ≡ [] → q.table ≡ [] → cards_left p ≡ cards_left q →
    ((card : Card) → set.contains known card ≡ true → IsTop (tops card.suit) (holding p.hands card.suit) card) →
    ((card : Card) → IsTop (tops card.suit) (holding q.hands card.suit) card → set.contains more card ≡ true) →
    ((card : Card) → set.contains known card ≡ true →
    (place : Place) × (set.contains (hand_of p.hands place) card ≡ true)) →
    IsFound p target known answer → IsFound q target more answer
partition tops p q known more target answer apart apart' pattern' strain leader table table' left is_top top_is held
    found =
    found_alike known more p q (like_of tops p q apart apart' pattern') target answer
    (pattern_alike tops p q apart apart' pattern' known strain leader table table' left is_top)
    (λ card k. top_is _ (like_is_top tops p q apart apart' pattern' card (held card k).0 (held card k).1
    (is_top card k))) found
