-- The trumps of both partners: what the definition says, and that it stays so when the cards get other names.
use Rattle.std.proofs.Common.{◌≡◌, ◌≢◌, ◌⊎◌, ℕ, ◌-◌, ◌<◌, ◌≤◌, true, [], refl, sym, ap, ◌∙◌, subst, inl, inr, arith}
use Rattle.std.specs.Prelude.{Option, ◌&&◌}
use Rattle.std.proofs.lemmas.Bool.{and_from, and_parts, cases_lt, or_right}
use Rattle.std.specs.FinSet as set
use Rattle.cards.specs.declared.card.Card.{Card}
use Rattle.cards.specs.Cards.{Cards}
use Rattle.cards.specs.Rank.{height}
use Rattle.cards.proofs.CardBitsLemmas.{card_cmp-IsAntisymmetric}
use Rattle.table_terms.specs.declared.suit.Suit.{Suit}
use Rattle.table_terms.specs.declared.place.Place.{Place}
use Rattle.table_terms.specs.declared.strain.Strain.{Strain}
use Rattle.table_terms.specs.Place.{partner_of, side_of}
use Rattle.table_terms.specs.Strain.{trump_of}
use Rattle.cards.specs.Hands.{Hands, hand_of}
use Rattle.cards.specs.Play.{IsPosition, Position, cards_left, is_trump}
use Rattle.double_dummy_laws.proofs.BestTrumpLemmas.{partners}
use Rattle.double_dummy_laws.proofs.SharedTrumpPlayLemmas as play
use Rattle.double_dummy_laws.proofs.SureTrickLemmas.{answered, at_start, from_start, in_named, left_named, named_cards, named_old, no_more_named, position_named}
use Rattle.double_dummy_laws.proofs.TakingLemmas.{at, paired_len, takes_none}
use Rattle.double_dummy_laws.proofs.WinnerLemmas.{both_trumps, same_trump}
use Rattle.double_dummy_laws.proofs.WinningCardLemmas.{opposite}
use Rattle.double_dummy_laws.specs.Found.{IsFound, wanted_answer}
use Rattle.double_dummy_laws.specs.Renaming.{HasNames, IsRenaming, Ownership, knowing}
use Rattle.double_dummy_laws.specs.SureTricks.{AreEnough, AreLongTrumpsKnown, AreSharedTrumps, TakesAtLeast}

-- the trumps of a hand
abbrev trumps_of : Cards → Option Suit → Cards
trumps_of hand trump = set.retain hand (is_trump trump)

in_trumps : (hand : Cards) (trump : Option Suit) (card : Card) →
    set.contains (trumps_of hand trump) card ≡ (set.contains hand card && is_trump trump card)
in_trumps hand trump card =
    set.contains-retain hand (is_trump trump) card (λ x e. ap (is_trump trump) (sym (card_cmp-IsAntisymmetric card x e)))

trump_had : (hand : Cards) (trump : Option Suit) (card : Card) → set.contains (trumps_of hand trump) card ≡ true →
    (set.contains hand card ≡ true) × (is_trump trump card ≡ true)
trump_had hand trump card held = and_parts _ _ (sym (in_trumps hand trump card) ∙ held)

has_trump : (hand : Cards) (trump : Option Suit) (card : Card) → set.contains hand card ≡ true →
    is_trump trump card ≡ true → set.contains (trumps_of hand trump) card ≡ true
has_trump hand trump card held is = in_trumps hand trump card ∙ and_from _ _ held is

module _ (ownership : Ownership) (name : Card → Card) (renaming : IsRenaming ownership name) (h hands : Hands) (named
    : HasNames ownership name h hands) where
  -- as many cards under their other names, whoever has them
  len_of_live : (cards : Cards) → ((card : Card) → set.contains cards card ≡ true → ownership.is_live card ≡ true) →
      set.len cards ≤ set.len (named_cards name cards)
  len_of_live cards live =
      paired_len (set.len cards) (λ old card. name old ≡ card) cards (named_cards name cards) (omega arith)
      (λ old in'. (name old, in_named name cards old in', refl))
      (λ a b c in_a in_b e f. renaming.apart a b (live a in_a) (live b in_b) (e ∙ sym f))

  -- a player has as many trumps
  trumps_kept : (trump : Option Suit) (place : Place) →
      set.len (trumps_of (hand_of h place) trump) ≤ set.len (trumps_of (hand_of hands place) trump)
  trumps_kept trump place =
      let had = trump_had (hand_of h place) trump in
      let live = λ (card : Card) (in' : set.contains (trumps_of (hand_of h place) trump) card ≡ true).
      (named.live place card (had card in').0).0 in
      paired_len (set.len (trumps_of (hand_of h place) trump)) (λ old card. name old ≡ card)
      (trumps_of (hand_of h place) trump) (trumps_of (hand_of hands place) trump) (omega arith)
      (λ old in'. (
        name old,
        has_trump (hand_of hands place) trump (name old) (named.into place old (had old in').0)
            (same_trump trump (name old) old (renaming.suit old (live old in')) ∙ (had old in').1),
        refl,
      ))
      (λ a b c in_a in_b e f. renaming.apart a b (live a in_a) (live b in_b) (e ∙ sym f))

  module _ (strain : Strain) (holder : Place) (cards beaters : Cards) (are
      : AreSharedTrumps (at h strain holder []) holder cards beaters) where
    -- a card that is counted is live, and its owner is of the side
    owned_by : (card : Card) → set.contains cards card ≡ true →
        (ownership.is_live card ≡ true) × (side_of (ownership.owner card) ≡ side_of holder)
    owned_by card in' =
        elim (are.held card in') [
          | inl mine ↦ let facts = named.live holder card mine in (facts.0, ap side_of facts.1)
          | inr theirs ↦ let facts = named.live (partner_of holder) card theirs in
              (facts.0, ap side_of (facts.1 ∙ opposite holder) ∙ partners holder)
        ]

    shared_named : ((card other : Card) (place : Place) → set.contains cards card ≡ true →
        side_of place ≢ side_of holder → set.contains (hand_of h place) other ≡ true → other.suit ≡ card.suit →
        (set.contains beaters other ≡ true) ⊎ (ownership.is_known card ≡ true)) →
        AreSharedTrumps (at hands strain holder []) holder (named_cards name cards) (named_cards name beaters)
    shared_named known = record {
      held = λ card in'.
          let old = named_old name cards card in' in
          elim (are.held old.0 old.1) [
            | inl mine ↦ inl (subst (λ x. set.contains (hand_of hands holder) x ≡ true) old.2
                (named.into holder old.0 mine))
            | inr theirs ↦ inr (subst (λ x. set.contains (hand_of hands (partner_of holder)) x ≡ true) old.2
                (named.into (partner_of holder) old.0 theirs))
          ];
      trumps = λ card in'.
          let old = named_old name cards card in' in
          subst (λ x. is_trump (trump_of strain) x ≡ true) old.2
          (same_trump (trump_of strain) (name old.0) old.0 (renaming.suit old.0 (owned_by old.0 old.1).0)
          ∙ are.trumps old.0 old.1);
      lower = λ card other place in' ne there is.
          let old = named_old name cards card in' in
          let beside = named.onto place other there in
          let mine = owned_by old.0 old.1 in
          let theirs = named.live place beside.0 beside.1 in
          let trump : is_trump (trump_of strain) beside.0 ≡ true =
          sym (same_trump (trump_of strain) (name beside.0) beside.0 (renaming.suit beside.0 theirs.0))
          ∙ ap (is_trump (trump_of strain)) beside.2 ∙ is in
          let suits = both_trumps (trump_of strain) beside.0 old.0 trump (are.trumps old.0 old.1) in
          let counted = λ (beats : set.contains beaters beside.0 ≡ true).
          subst (λ x. set.contains (named_cards name beaters) x ≡ true) beside.2
          (in_named name beaters beside.0 beats) in
          elim (are.lower old.0 beside.0 place old.1 ne beside.1 trump) [
            | inl beats ↦ inl (counted beats)
            | inr less ↦ elim (known old.0 beside.0 place old.1 ne beside.1 suits) [
              | inl beats ↦ inl (counted beats)
              | inr ranked ↦ inr (subst (λ x. height other.rank < height x.rank) old.2
                  (subst (λ y. height y.rank < height (name old.0).rank) beside.2
                  (renaming.order beside.0 old.0 theirs.0 mine.0 (or_right _ _ ranked)
                  (λ e. ne (ap side_of (sym theirs.1 ∙ e) ∙ mine.1)) suits less)))
            ]
          ];
      long = omega (
        arith,
        are.long,
        no_more_named ownership name renaming h hands named cards,
        trumps_kept (trump_of strain) holder,
      );
    }

-- the partners' trumps take the tricks that are counted
shared_at : (h : Hands) (strain : Strain) (leader holder : Place) (cards beaters : Cards) →
    IsPosition (at h strain leader []) → AreSharedTrumps (at h strain holder []) holder cards beaters →
    TakesAtLeast (side_of holder) (set.len cards - set.len beaters) (at h strain leader [])
shared_at h strain leader holder cards beaters valid are =
    let p = at h strain leader [] in
    let own = trumps_of (hand_of h holder) (trump_of strain) in
    let tricks = set.len cards - set.len beaters in
    elim (cases_lt (set.len cards) (set.len beaters)) [
      | inl fewer ↦
          let none : tricks ≡ 0 = omega (arith, fewer) in
          subst (λ j. TakesAtLeast (side_of holder) j p) (sym none) (takes_none (side_of holder) p valid)
      | inr enough ↦
          play.taken strain holder (cards_left p) tricks h leader cards beaters own (omega arith) valid (record {
            held = λ card in'. elim (are.held card in') [
              | inl mine ↦ inl mine
              | inr theirs ↦ inr (subst (λ place. set.contains (hand_of h place) card ≡ true) (opposite holder) theirs)
            ];
            trumps = are.trumps;
            lower = are.lower;
            own = λ card in'. (trump_had (hand_of h holder) (trump_of strain) card in').0;
            own_trumps = λ card in'. (trump_had (hand_of h holder) (trump_of strain) card in').1;
            all = λ card held is. has_trump (hand_of h holder) (trump_of strain) card held is;
          }) (omega (arith, enough)) (omega (arith, enough, are.long))
    ]

-- the leader does not matter
shared_of_holder : (h : Hands) (strain : Strain) (leader holder : Place) (cards beaters : Cards) →
    AreSharedTrumps (at h strain leader []) holder cards beaters →
    AreSharedTrumps (at h strain holder []) holder cards beaters
shared_of_holder h strain leader holder cards beaters are =
    record { held = are.held; trumps = are.trumps; lower = are.lower; long = are.long }

shared_found_at : (h : Hands) (strain : Strain) (leader holder : Place) (cards beaters known : Cards) (target : ℕ) →
    IsPosition (at h strain leader []) → AreSharedTrumps (at h strain leader []) holder cards beaters →
    AreLongTrumpsKnown (at h strain leader []) holder cards beaters known →
    AreEnough (side_of holder) (set.len cards - set.len beaters) (at h strain leader []) target →
    IsFound (at h strain leader []) target known (wanted_answer (side_of holder))
shared_found_at h strain leader holder cards beaters known target valid are are_known enough ownership owned tight_p name
    hands renaming named =
    let own = knowing ownership known in
    let of_holder = shared_of_holder h strain leader holder cards beaters are in
    answered (side_of holder) (set.len cards - set.len beaters)
    (set.len (named_cards name cards) - set.len (named_cards name beaters)) (at h strain leader [])
    (at hands strain leader []) target enough
    (omega (
      arith,
      len_of_live own name renaming h hands named cards
          (λ card in'. (owned_by own name renaming h hands named strain holder cards beaters of_holder card in').0),
      no_more_named own name renaming h hands named beaters,
    ))
    (left_named own name renaming h hands named strain leader) refl
    (shared_at hands strain leader holder (named_cards name cards) (named_cards name beaters)
    (position_named own name renaming h hands named strain leader valid)
    (shared_named own name renaming h hands named strain holder cards beaters of_holder are_known))

pub shared_take : (p : Position) (holder : Place) (cards beaters : Cards) → IsPosition p → p.table ≡ [] →
    AreSharedTrumps p holder cards beaters → TakesAtLeast (side_of holder) (set.len cards - set.len beaters) p
shared_take p holder cards beaters valid none are =
    at_start (λ q. TakesAtLeast (side_of holder) (set.len cards - set.len beaters) q) p none
    (shared_at p.hands p.strain p.leader holder cards beaters (from_start IsPosition p none valid)
    (shared_of_holder p.hands p.strain p.leader holder cards beaters
    (from_start (λ q. AreSharedTrumps q holder cards beaters) p none are)))

pub shared_found : (p : Position) (holder : Place) (cards beaters known : Cards) (target : ℕ) → IsPosition p →
    p.table ≡ [] → AreSharedTrumps p holder cards beaters → AreLongTrumpsKnown p holder cards beaters known →
    AreEnough (side_of holder) (set.len cards - set.len beaters) p target →
    IsFound p target known (wanted_answer (side_of holder))
shared_found p holder cards beaters known target valid none are are_known enough =
    at_start (λ q. IsFound q target known (wanted_answer (side_of holder))) p none
    (shared_found_at p.hands p.strain p.leader holder cards beaters known target (from_start IsPosition p none valid)
    (from_start (λ q. AreSharedTrumps q holder cards beaters) p none are) are_known
    (from_start (λ q. AreEnough (side_of holder) (set.len cards - set.len beaters) q target) p none enough))
