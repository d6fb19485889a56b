-- A suit's cards from one up, as a set and as the first so many of the list of those held.
use Rattle.std.proofs.Common.{
  ◌≡◌,
  ◌≢◌,
  ℕ,
  zero,
  suc,
  ◌<◌,
  ◌≤◌,
  true,
  false,
  ◌⊎◌,
  List,
  [],
  ◌∷◌,
  length,
  refl,
  sym,
  ap,
  ◌∙◌,
  subst,
  inl,
  inr,
  arith,
  Option,
  Some,
  None,
}
use Rattle.std.specs.Prelude.{nat_lt, ◌&&◌}
use Rattle.std.proofs.lemmas.Bool.{
  and_from,
  and_parts,
  cases_Bool,
  cases_eq,
  cases_lt,
  cond-true,
  cond-false,
  false_from_ne_true,
  lt-ltb,
  ltb-true,
  not-true,
  not_from_false,
  true≢false,
}
use Rattle.std.specs.FinSet as set
use Rattle.cards.specs.declared.card.Card.{Card}
use Rattle.cards.specs.Card.{number_in_pack}
use Rattle.cards.specs.CardBits.{card_cmp_total, same_number, tied_is_equal}
use Rattle.cards.specs.Cards.{Cards}
use Rattle.cards.specs.Hands.{Hands, hand_of}
use Rattle.cards.specs.Play.{is_of}
use Rattle.cards.specs.Rank.{height}
use Rattle.cards.specs.declared.rank.Rank.{Rank}
use Rattle.cards.specs.declared.rank.Rank.TheVariants.{Two}
use Rattle.table_terms.specs.Suit.{suit_number}
use Rattle.table_terms.specs.declared.suit.Suit.{Suit}
use Rattle.table_terms.specs.declared.suit.Suit.TheVariants.{Spades}
use Rattle.table_terms.specs.declared.place.Place.{Place}
use Rattle.table_terms.specs.declared.place.Place.TheVariants.{North, East, South, West}
use Rattle.double_dummy_laws.proofs.CountLemmas.{has_less}
use Rattle.double_dummy_laws.proofs.HandLemmas.{in_suit}
use Rattle.double_dummy_laws.proofs.TakingLemmas.{removed_had, some_of}
use Rattle.double_dummy_laws.proofs.WinnerLemmas.{both_of, height_below}
use Rattle.double_dummy_laws.specs.Pattern.{Held, IsTop, held_before, holder_of, holding}
use Rattle.position_patterns.proofs.RankLemmas.{held_below, held_below-all, rank_from, rank_from-height, ranks_below}
use Rattle.position_patterns.proofs.RemainderLemmas.{held_by_one, held_in_all, is_of_own}
use Rattle.position_patterns.proofs.SetLemmas.{had, in_difference}
use Rattle.position_patterns.specs.Remainder.{all_held}
use Rattle.position_patterns.specs.Tops.{IsReach}

-- a card of a list of held ones
abbrev IsListed : List Held → Card → Type 0
IsListed xs card = IsTop (length xs) xs card

-- each card is higher than those after it
abbrev IsFalling : List Held → Type 0
IsFalling [] = Unit {0}
IsFalling (x ∷ xs) = ((card : Card) → IsListed xs card → height card.rank < height x.card.rank) × IsFalling xs

still_has : (cards : Cards) (gone card : Card) → set.contains cards card ≡ true → card ≢ gone →
    set.contains (set.remove cards gone) card ≡ true
still_has cards gone card held ne =
    set.contains-remove card_cmp_total cards gone card
    ∙ and_from _ _ (not_from_false _ (false_from_ne_true _ (λ same. ne (tied_is_equal card gone same)))) held

-- a card of a list that goes down is among the first as many as a set has that has all from it up
up_reach : (xs : List Held) (upper : Cards) (card : Card) → IsFalling xs →
    ((other : Card) → IsListed xs other → height card.rank ≤ height other.rank → set.contains upper other ≡ true) →
    IsListed xs card → IsTop (set.len upper) xs card
up_reach [] upper card falls has listed = absurd listed
up_reach (x ∷ xs) upper card falls has (inl here) =
    subst (λ n. IsTop n (x ∷ xs) card) (has_less upper card (has card (inl here) (omega arith))) (inl here)
up_reach (x ∷ xs) upper card falls has (inr more) =
    let below = falls.0 card more in
    let first = has x.card (inl refl) (omega arith) in
    subst (λ n. IsTop n (x ∷ xs) card) (has_less upper x.card first)
    (inr (up_reach xs (set.remove upper x.card) card falls.1 (λ other listed high.
    still_has upper x.card other (has other (inr listed) high)
    (λ same. omega (arith, falls.0 other listed, ap (λ c. height c.rank) same))) more))

one_less : (cards : Cards) (gone : Card) → set.len cards ≤ suc (set.len (set.remove cards gone))
one_less cards gone =
    elim (cases_Bool (set.contains cards gone)) [
      | inl held ↦ omega (arith, has_less cards gone held)
      | inr not_held ↦
          let same = set.len-remove card_cmp_total cards gone ∙ cond-false _ _ _ not_held in
          omega (arith, same)
    ]

-- and one that is below as many cards of a set, or more, is not among the first so many
not_above : (xs : List Held) (upper : Cards) (count : ℕ) (card : Card) → IsFalling xs →
    ((other : Card) → set.contains upper other ≡ true → IsListed xs other × (height card.rank < height other.rank)) →
    count ≤ set.len upper → IsTop count xs card → ⊥
not_above [] upper zero card falls above many top = top
not_above [] upper (suc count) card falls above many top = top
not_above (x ∷ xs) upper zero card falls above many top = top
not_above (x ∷ xs) upper (suc count) card falls above many (inl here) =
    let one = some_of upper (λ none. omega (arith, many, none)) in
    let is = above one.0 one.1 in
    let e = ap (λ c. height c.rank) here in
    elim is.0 [
      | inl first ↦ omega (arith, is.1, e, ap (λ c. height c.rank) first)
      | inr later ↦ omega (arith, is.1, e, falls.0 one.0 later)
    ]
not_above (x ∷ xs) upper (suc count) card falls above many (inr more) =
    not_above xs (set.remove upper x.card) count card falls.1 (λ other held.
    let had = removed_had upper x.card other held in
    let is = above other had.0 in
    (elim is.0 [ inl first ↦ absurd (had.1 (sym first)) | inr later ↦ later ], is.1))
    (omega (arith, many, one_less upper x.card)) more

-- a set's cards are no more than the list's that has them all
no_more_than : (xs : List Held) (upper : Cards) →
    ((other : Card) → set.contains upper other ≡ true → IsListed xs other) → set.len upper ≤ length xs
no_more_than [] upper listed =
    elim (cases_eq (set.len upper) 0) [
      | inl none ↦ omega (arith, none)
      | inr some ↦ let one = some_of upper some in absurd (listed one.0 one.1)
    ]
no_more_than (x ∷ xs) upper listed =
    omega (
      arith,
      one_less upper x.card,
      no_more_than xs (set.remove upper x.card) (λ other held.
          let had = removed_had upper x.card other held in
          elim (listed other had.0) [ inl first ↦ absurd (had.1 (sym first)) | inr later ↦ later ]),
    )

-- somebody holds the card, or nobody does
holder_cases : (hands : Hands) (card : Card) →
    ((place : Place) × (holder_of hands card ≡ Some place) × (set.contains (all_held hands) card ≡ true))
    ⊎ ((holder_of hands card ≡ None) × (set.contains (all_held hands) card ≡ false))
unfolding holder_of
holder_cases hands card =
    elim (cases_Bool (set.contains hands.north card)) [
      | inl n ↦ inl (North, cond-true _ _ _ n, held_in_all hands North card n)
      | inr n ↦ elim (cases_Bool (set.contains hands.east card)) [
        | inl e ↦ inl (East, cond-false _ _ _ n ∙ cond-true _ _ _ e, held_in_all hands East card e)
        | inr e ↦ elim (cases_Bool (set.contains hands.south card)) [
          | inl s ↦ inl (
            South,
            cond-false _ _ _ n ∙ cond-false _ _ _ e ∙ cond-true _ _ _ s,
            held_in_all hands South card s,
          )
          | inr s ↦ elim (cases_Bool (set.contains hands.west card)) [
            | inl w ↦ inl (
              West,
              cond-false _ _ _ n ∙ cond-false _ _ _ e ∙ cond-false _ _ _ s ∙ cond-true _ _ _ w,
              held_in_all hands West card w,
            )
            | inr w ↦ inr (
              cond-false _ _ _ n ∙ cond-false _ _ _ e ∙ cond-false _ _ _ s ∙ cond-false _ _ _ w,
              false_from_ne_true _ (λ held. let one = held_by_one hands card held in
                  nobody hands card n e s w one.0 one.1),
            )
          ]
        ]
      ]
    ]
  where
    nobody : (hands : Hands) (card : Card) → set.contains hands.north card ≡ false →
        set.contains hands.east card ≡ false → set.contains hands.south card ≡ false →
        set.contains hands.west card ≡ false → (place : Place) →
        set.contains (hand_of hands place) card ≡ true → ⊥
    nobody hands card n e s w North held = true≢false (sym held ∙ n)
    nobody hands card n e s w East held = true≢false (sym held ∙ e)
    nobody hands card n e s w South held = true≢false (sym held ∙ s)
    nobody hands card n e s w West held = true≢false (sym held ∙ w)

-- the first card of a list, if it is held, and the others
front : (first : Card) (holder : Option Place) (rest : List Held) (card : Card) →
    IsListed (held_before first holder rest) card →
    ((place : Place) × (holder ≡ Some place) × (first ≡ card)) ⊎ IsListed rest card
front first None rest card listed = inr listed
front first (Some place) rest card (inl here) = inl (place, refl, here)
front first (Some place) rest card (inr more) = inr more

front_listed : (first : Card) (holder : Option Place) (rest : List Held) (place : Place) → holder ≡ Some place →
    IsListed (held_before first holder rest) first
front_listed first None rest place e = absurd (never place e)
  where
    never : (place : Place) → None ≡ Some place → ⊥
    never place e = cc
front_listed first (Some at) rest place e = inl refl

later_listed : (first : Card) (holder : Option Place) (rest : List Held) (card : Card) → IsListed rest card →
    IsListed (held_before first holder rest) card
later_listed first None rest card listed = listed
later_listed first (Some place) rest card listed = inr listed

front_falls : (first : Card) (holder : Option Place) (rest : List Held) →
    ((card : Card) → IsListed rest card → height card.rank < height first.rank) → IsFalling rest →
    IsFalling (held_before first holder rest)
front_falls first None rest below falls = falls
front_falls first (Some place) rest below falls = (below, falls)

height_from : (k : ℕ) → k < 13 → height (rank_from k) ≡ k
unfolding rank_from
height_from zero few = refl
height_from (suc zero) few = refl
height_from (suc (suc zero)) few = refl
height_from (suc (suc (suc zero))) few = refl
height_from (suc (suc (suc (suc zero)))) few = refl
height_from (suc (suc (suc (suc (suc zero))))) few = refl
height_from (suc (suc (suc (suc (suc (suc zero)))))) few = refl
height_from (suc (suc (suc (suc (suc (suc (suc zero))))))) few = refl
height_from (suc (suc (suc (suc (suc (suc (suc (suc zero)))))))) few = refl
height_from (suc (suc (suc (suc (suc (suc (suc (suc (suc zero))))))))) few = refl
height_from (suc (suc (suc (suc (suc (suc (suc (suc (suc (suc zero)))))))))) few = refl
height_from (suc (suc (suc (suc (suc (suc (suc (suc (suc (suc (suc zero))))))))))) few = refl
height_from (suc (suc (suc (suc (suc (suc (suc (suc (suc (suc (suc (suc zero)))))))))))) few = refl
height_from (suc (suc (suc (suc (suc (suc (suc (suc (suc (suc (suc (suc (suc k))))))))))))) few =
    absurd (omega (arith, few))

-- what stands in the list of the cards below a height
record IsBelow (hands : Hands) (suit : Suit) (k : ℕ) (card : Card) : Type 0 where
  low : height card.rank < k
  of_suit : card.suit ≡ suit
  held : set.contains (all_held hands) card ≡ true

is_below : (hands : Hands) (suit : Suit) (k : ℕ) (card : Card) → k ≤ 13 → IsListed (held_below hands suit k) card →
    IsBelow hands suit k card
unfolding ranks_below
is_below hands suit zero card few listed = absurd listed
is_below hands suit (suc k) card few listed =
    let first : Card = record { suit = suit; rank = rank_from k } in
    elim (front first (holder_of hands first) (held_below hands suit k) card listed) [
      | inl here ↦ subst (IsBelow hands suit (suc k)) here.2 (record {
        low = omega (arith, height_from k (omega (arith, few)));
        of_suit = refl;
        held = elim (holder_cases hands first)
            [ inl is ↦ is.2 | inr none ↦ absurd (never here.0 (sym none.0 ∙ here.1)) ];
      })
      | inr more ↦
          let is = is_below hands suit k card (omega (arith, few)) more in
          record { low = omega (arith, is.low); of_suit = is.of_suit; held = is.held }
    ]
  where
    never : (place : Place) → None ≡ Some place → ⊥
    never place e = cc

falls_below : (hands : Hands) (suit : Suit) (k : ℕ) → k ≤ 13 → IsFalling (held_below hands suit k)
unfolding ranks_below
falls_below hands suit zero few = tt
falls_below hands suit (suc k) few =
    let first : Card = record { suit = suit; rank = rank_from k } in
    front_falls first (holder_of hands first) (held_below hands suit k)
    (λ card listed. omega (
      arith,
      height_from k (omega (arith, few)),
      (is_below hands suit k card (omega (arith, few)) listed).low,
    ))
    (falls_below hands suit k (omega (arith, few)))

listed_below : (hands : Hands) (suit : Suit) (k : ℕ) (rank : Rank) → height rank < k →
    set.contains (all_held hands) (record { suit = suit; rank = rank }) ≡ true →
    IsListed (held_below hands suit k) (record { suit = suit; rank = rank })
unfolding ranks_below
listed_below hands suit zero rank low held = absurd (omega (arith, low))
listed_below hands suit (suc k) rank low held =
    let first : Card = record { suit = suit; rank = rank_from k } in
    elim (cases_lt (height rank) k) [
      | inl lower ↦ later_listed first (holder_of hands first) (held_below hands suit k) _
          (listed_below hands suit k rank lower held)
      | inr same ↦
          let is : rank_from k ≡ rank = ap rank_from (omega (arith, low, same)) ∙ rank_from-height rank in
          subst (λ r. IsListed (held_before (record { suit = suit; rank = r })
          (holder_of hands (record { suit = suit; rank = r })) (held_below hands suit k))
          (record { suit = suit; rank = rank })) (sym is)
          (elim (holder_cases hands (record { suit = suit; rank = rank })) [
            | inl by ↦ front_listed (record { suit = suit; rank = rank }) _ (held_below hands suit k) by.0 by.1
            | inr none ↦ absurd (true≢false (sym held ∙ none.1))
          ])
    ]

-- the same of all of a suit's cards
is_holding : (hands : Hands) (suit : Suit) (card : Card) → IsListed (holding hands suit) card →
    IsBelow hands suit 13 card
is_holding hands suit card listed = is_below hands suit 13 card (omega arith)
    (subst (λ xs. IsListed xs card) (sym (held_below-all hands suit 13 refl)) listed)

falls : (hands : Hands) (suit : Suit) → IsFalling (holding hands suit)
falls hands suit = subst IsFalling (held_below-all hands suit 13 refl) (falls_below hands suit 13 (omega arith))

listed_holding : (hands : Hands) (card : Card) → set.contains (all_held hands) card ≡ true →
    IsListed (holding hands card.suit) card
listed_holding hands card held = subst (λ xs. IsListed xs card) (held_below-all hands card.suit 13 refl)
    (listed_below hands card.suit 13 card.rank (height_below card.rank) held)

-- of a suit's held cards those from one up
pub record AreFrom (hands : Hands) (suit : Suit) (lowest : Card) (upper : Cards) : Type 0 where
  pub among : (card : Card) → set.contains upper card ≡ true →
      (set.contains (set.retain (all_held hands) (is_of suit)) card ≡ true)
      × (number_in_pack lowest ≤ number_in_pack card)
  pub all : (card : Card) → set.contains (set.retain (all_held hands) (is_of suit)) card ≡ true →
      number_in_pack lowest ≤ number_in_pack card → set.contains upper card ≡ true

held_of_suit : (hands : Hands) (suit : Suit) (card : Card) →
    set.contains (set.retain (all_held hands) (is_of suit)) card ≡ true →
    (set.contains (all_held hands) card ≡ true) × (card.suit ≡ suit)
held_of_suit hands suit card held =
    let parts = and_parts _ _ (sym (in_suit (all_held hands) suit card) ∙ held) in
    (parts.0, both_of suit card (record { suit = suit; rank = card.rank }) parts.1 (is_of_own suit card.rank))

of_suit_held : (hands : Hands) (suit : Suit) (card : Card) → set.contains (all_held hands) card ≡ true →
    card.suit ≡ suit → set.contains (set.retain (all_held hands) (is_of suit)) card ≡ true
of_suit_held hands suit card held same = in_suit (all_held hands) suit card
    ∙ and_from _ _ held (subst (λ s. is_of s card ≡ true) same (is_of_own card.suit card.rank))

-- as many cards reach down to each of them
pub reach_from : (known : Cards) (hands : Hands) (suit : Suit) (lowest : Card) (upper : Cards) →
    AreFrom hands suit lowest upper →
    ((card : Card) → set.contains known card ≡ true →
    set.contains (set.retain (all_held hands) (is_of suit)) card ≡ true → number_in_pack lowest ≤ number_in_pack card) →
    (count : ℕ) → count ≡ set.len upper → IsReach known (holding hands suit) count
reach_from known hands suit lowest upper from least count is = record {
  within = omega (
    arith,
    is,
    no_more_than (holding hands suit) upper (λ other in'.
        let own = held_of_suit hands suit other (from.among other in').0 in
        subst (λ s. IsListed (holding hands s) other) own.1 (listed_holding hands other own.0)),
  );
  reach = λ card in' listed. subst (λ n. IsTop n (holding hands suit) card) (sym is)
      (up_reach (holding hands suit) upper card (falls hands suit) (λ other listed' high.
      let own = is_holding hands suit card listed in
      let its = is_holding hands suit other listed' in
      from.all other (of_suit_held hands suit other its.held its.of_suit)
      (omega (
        arith,
        high,
        ap suit_number own.of_suit,
        ap suit_number its.of_suit,
        least card in' (of_suit_held hands suit card own.held own.of_suit),
      ))) listed);
}

-- where no held card of the suit is known, none has to be reached
pub reach_nothing : (known : Cards) (hands : Hands) (suit : Suit) →
    ((card : Card) → set.contains known card ≡ true →
    set.contains (set.retain (all_held hands) (is_of suit)) card ≡ true → ⊥) →
    IsReach known (holding hands suit) 0
reach_nothing known hands suit none = record {
  within = omega arith;
  reach = λ card in' listed.
      let own = is_holding hands suit card listed in
      absurd (none card in' (of_suit_held hands suit card own.held own.of_suit));
}

top_listed : (count : ℕ) (xs : List Held) (card : Card) → IsTop count xs card → IsListed xs card
top_listed zero xs card top = absurd top
top_listed (suc count) [] card top = absurd top
top_listed (suc count) (x ∷ xs) card (inl here) = inl here
top_listed (suc count) (x ∷ xs) card (inr more) = inr (top_listed count xs card more)

-- the top cards are held
pub tops_held : (hands : Hands) (suit : Suit) (count : ℕ) (card : Card) → IsTop count (holding hands suit) card →
    set.contains (set.retain (all_held hands) (is_of suit)) card ≡ true
tops_held hands suit count card top =
    let own = is_holding hands suit card (top_listed count (holding hands suit) card top) in
    of_suit_held hands suit card own.held own.of_suit

-- the cards from one up have so many top cards, if they are as many
pub tops_from : (hands : Hands) (suit : Suit) (lowest : Card) (upper : Cards) (count : ℕ) →
    AreFrom hands suit lowest upper → count ≤ set.len upper →
    (card : Card) → IsTop count (holding hands suit) card → set.contains upper card ≡ true
tops_from hands suit lowest upper count from many card top =
    elim (cases_Bool (set.contains upper card)) [
      | inl has ↦ has
      | inr out ↦
          let own = is_holding hands suit card (top_listed count (holding hands suit) card top) in
          let in_suit' = tops_held hands suit count card top in
          let under : number_in_pack card < number_in_pack lowest =
          elim (cases_lt (number_in_pack card) (number_in_pack lowest)) [
            | inl less ↦ less
            | inr reaches ↦ absurd (true≢false (sym (from.all card in_suit' reaches) ∙ out))
          ] in
          absurd (not_above (holding hands suit) upper count card (falls hands suit) (λ other in'.
          let its = from.among other in' in
          let of_suit = held_of_suit hands suit other its.0 in (
            subst (λ s. IsListed (holding hands s) other) of_suit.1 (listed_holding hands other of_suit.0),
            omega (arith, under, its.1, ap suit_number own.of_suit, ap suit_number of_suit.1),
          )) many top)
    ]

abbrev pub lowest_card : Card
lowest_card = record { suit = Spades; rank = Two }

-- the cards of a set without those of the pack below one
pub upper_among : (cards below rest upper : Cards) (lowest card : Card) →
    ((card : Card) → set.contains below card ≡ (nat_lt (number_in_pack lowest_card) (number_in_pack card)
    && nat_lt (number_in_pack card) (number_in_pack lowest))) →
    rest ≡ set.difference cards below → upper ≡ set.remove rest lowest_card → set.contains upper card ≡ true →
    (set.contains cards card ≡ true) × (number_in_pack lowest ≤ number_in_pack card)
upper_among cards below rest upper lowest card below_is rest_is upper_is in' =
    let left = had rest upper lowest_card card upper_is in' in
    let parts = and_parts _ _ (sym (in_difference cards below rest rest_is card) ∙ left.0) in (
      parts.0,
      elim (cases_lt (number_in_pack card) (number_in_pack lowest)) [
        | inr reaches ↦ reaches
        | inl less ↦ elim (cases_lt (number_in_pack lowest_card) (number_in_pack card)) [
          | inl some ↦ absurd (true≢false (sym (below_is card ∙ and_from _ _ (lt-ltb _ _ some) (lt-ltb _ _ less))
              ∙ not-true _ parts.1))
          | inr none ↦ absurd (left.1 (same_number card lowest_card (omega (arith, none))))
        ]
      ],
    )

pub upper_all : (cards below rest upper : Cards) (lowest card : Card) →
    ((card : Card) → set.contains below card ≡ (nat_lt (number_in_pack lowest_card) (number_in_pack card)
    && nat_lt (number_in_pack card) (number_in_pack lowest))) →
    rest ≡ set.difference cards below → upper ≡ set.remove rest lowest_card → 0 < number_in_pack lowest →
    set.contains cards card ≡ true → number_in_pack lowest ≤ number_in_pack card → set.contains upper card ≡ true
upper_all cards below rest upper lowest card below_is rest_is upper_is some in' reaches =
    ap (λ s. set.contains s card) upper_is
    ∙ still_has rest lowest_card card
    (in_difference cards below rest rest_is card ∙ and_from _ _ in' (not_from_false _ (false_from_ne_true _ (λ under.
    omega (
      arith,
      reaches,
      ltb-true (number_in_pack card) (number_in_pack lowest)
          (and_parts _ _ (sym (below_is card) ∙ under)).1,
    )))))
    (λ same. omega (arith, some, reaches, ap number_in_pack same))

pub from_of : (hands : Hands) (suit : Suit) (lowest : Card) (held upper : Cards) →
    held ≡ set.retain (all_held hands) (is_of suit) →
    ((card : Card) → set.contains upper card ≡ true →
    (set.contains held card ≡ true) × (number_in_pack lowest ≤ number_in_pack card)) →
    ((card : Card) → set.contains held card ≡ true → number_in_pack lowest ≤ number_in_pack card →
    set.contains upper card ≡ true) → AreFrom hands suit lowest upper
from_of hands suit lowest held upper held_is among all = record {
  among = λ card in'. let is = among card in' in (ap (λ s. set.contains s card) (sym held_is) ∙ is.0, is.1);
  all = λ card in' reaches. all card (ap (λ s. set.contains s card) held_is ∙ in') reaches;
}
