-- Sure tricks stay sure when the cards get other names.
use Rattle.std.proofs.Common.{◌≡◌, ◌≢◌, ◌⊎◌, ℕ, ◌+◌, ◌-◌, ◌<◌, ◌≤◌, true, List, [], ◌∷◌, length, map, refl, sym, ap, ◌∙◌, subst, inl, inr, arith}
use Rattle.std.specs.Prelude.{nat_eq, nat_le}
use Rattle.std.specs.List.{list_any}
use Rattle.std.specs.Ordering.{eq_by_cmp}
use Rattle.std.proofs.lemmas.Bool.{false_from_ne_true, le-leb, lt-leb, or_cases, or_left, or_right, true≢false}
use Rattle.std.specs.FinSet as set
use Rattle.cards.specs.declared.card.Card.{Card}
use Rattle.cards.specs.Card.{card_cmp}
use Rattle.cards.specs.CardBits.{card_cmp_total, tied_is_equal}
use Rattle.cards.specs.Cards.{Cards}
use Rattle.cards.specs.Rank.{height}
use Rattle.table_terms.specs.declared.place.Place.{Place}
use Rattle.table_terms.specs.declared.place.Place.TheVariants.{North, East, South, West}
use Rattle.table_terms.specs.declared.side.Side.{Side}
use Rattle.table_terms.specs.declared.side.Side.TheVariants.{NorthSouth, EastWest}
use Rattle.table_terms.specs.declared.strain.Strain.{Strain}
use Rattle.table_terms.specs.declared.suit.Suit.{Suit}
use Rattle.table_terms.specs.Suit.{suit_number}
use Rattle.table_terms.specs.Place.{left_of, partner_of, side_of}
use Rattle.table_terms.specs.Strain.{trump_of}
use Rattle.cards.specs.Hands.{Hands, hand_of}
use Rattle.cards.specs.Play.{IsApart, IsPosition, Position, cards_left, is_of, is_trump, legal_of, strength, strength_in}
use Rattle.cards.specs.DoubleDummy.{tricks}
use Rattle.double_dummy_laws.proofs.BestLemmas.{Among}
use Rattle.double_dummy_laws.proofs.HandLemmas.{among_items, follows_legal, items_among, legal_follows, tied}
use Rattle.double_dummy_laws.proofs.BestTrumpLemmas as trumps
use Rattle.double_dummy_laws.proofs.BestTrumpLemmas.{partners}
use Rattle.double_dummy_laws.proofs.GuardedTrumpLemmas as guarded
use Rattle.double_dummy_laws.proofs.LongTrumpLemmas as long
use Rattle.double_dummy_laws.proofs.WinningCardLemmas as winning
use Rattle.double_dummy_laws.proofs.WinningCardLemmas.{opposite}
use Rattle.double_dummy_laws.proofs.RunnerLemmas as runners
use Rattle.double_dummy_laws.proofs.RunnerLemmas.{has_suit, suit_had}
use Rattle.double_dummy_laws.proofs.TakingLemmas.{at, paired_len}
use Rattle.double_dummy_laws.proofs.WinnerLemmas.{both_trumps, same_trump, stronger_stays}
use Rattle.double_dummy_laws.specs.Found.{IsFound, wanted_answer}
use Rattle.double_dummy_laws.specs.Renaming.{HasNames, IsLiveCardOf, IsRenaming, Ownership, knowing}
use Rattle.double_dummy_laws.specs.SureTricks.{AreBestTrumps, AreEnough, AreInReach, AreLongTrumps, AreLongTrumpsKnown, AreMasters, AreMastersKnown, AreRunners, AreTrumpsKnown, IsGuarded, IsWinningCard, IsWinningCardKnown, TakesAtLeast, led_by}

-- the cards' other names, as a set
abbrev pub named_cards : (Card → Card) → Cards → Cards
named_cards name cards = set.from_list (map name (set.items cards))

pub named_old : (name : Card → Card) (cards : Cards) (card : Card) →
    set.contains (named_cards name cards) card ≡ true →
    (old : Card) × (set.contains cards old ≡ true) × (name old ≡ card)
named_old name cards card in' =
    let found = look (set.items cards)
    (sym (set.contains-from_list card_cmp_total (map name (set.items cards)) card) ∙ in') in
    (found.0, items_among cards found.0 found.1, found.2)
  where
    look : (items : List Card) → list_any (eq_by_cmp card_cmp card) (map name items) ≡ true →
        (old : Card) × Among old items × (name old ≡ card)
    look [] none = absurd (true≢false (sym none))
    look (first ∷ rest) some =
        elim (or_cases _ _ some) [
          | inl here ↦ (first, inl refl, sym (tied_is_equal card (name first) here))
          | inr later ↦ let found = look rest later in (found.0, inr found.1, found.2)
        ]

pub in_named : (name : Card → Card) (cards : Cards) (card : Card) → set.contains cards card ≡ true →
    set.contains (named_cards name cards) (name card) ≡ true
in_named name cards card in' =
    set.contains-from_list card_cmp_total (map name (set.items cards)) (name card)
    ∙ look (set.items cards) (among_items cards card in')
  where
    look : (items : List Card) → Among card items →
        list_any (eq_by_cmp card_cmp (name card)) (map name items) ≡ true
    look [] none = absurd none
    look (first ∷ rest) (inl e) = or_left _ _ (tied (name card) (name first) (ap name e))
    look (first ∷ rest) (inr later) = or_right _ _ (look rest later)

module _ (ownership : Ownership) (name : Card → Card) (renaming : IsRenaming ownership name) (h hands : Hands) (named
    : HasNames ownership name h hands) where
  -- each player has as many cards
  len_named : (place : Place) → set.len (hand_of hands place) ≡ set.len (hand_of h place)
  len_named place =
      let less = paired_len (set.len (hand_of hands place)) (λ card old. name old ≡ card) (hand_of hands place)
      (hand_of h place) (omega arith) (λ card held. named.onto place card held)
      (λ a b c in_a in_b e f. sym e ∙ f) in
      let more = paired_len (set.len (hand_of h place)) (λ old card. name old ≡ card) (hand_of h place)
      (hand_of hands place) (omega arith) (λ old held. (name old, named.into place old held, refl))
      (λ a b c in_a in_b e f. renaming.apart a b (named.live place a in_a).0 (named.live place b in_b).0 (e ∙ sym f)) in
      omega (arith, less, more)

  pub left_named : (strain : Strain) (leader : Place) →
      cards_left (at hands strain leader []) ≡ cards_left (at h strain leader [])
  left_named strain leader =
      omega (arith, len_named North, len_named East, len_named South, len_named West)

  position_apart : IsApart h → IsApart hands
  position_apart apart place other card held also =
      let old = named.onto place card held in
      let same = named.onto other card also in
      let e : same.0 ≡ old.0 =
      renaming.apart same.0 old.0 (named.live other same.0 same.1).0 (named.live place old.0 old.1).0
      (same.2 ∙ sym old.2) in
      apart place other old.0 old.1 (subst (λ x. set.contains (hand_of h other) x ≡ true) e same.1)

  pub position_named : (strain : Strain) (leader : Place) → IsPosition (at h strain leader []) →
      IsPosition (at hands strain leader [])
  position_named strain leader valid = record {
    apart = position_apart valid.apart;
    trick = tt;
    equal = λ place other. omega (arith, len_named place, len_named other, valid.equal place other);
  }

  -- as many cards under their other names
  len_of_named : (place : Place) (cards : Cards) →
      ((card : Card) → set.contains cards card ≡ true → set.contains (hand_of h place) card ≡ true) →
      set.len cards ≤ set.len (named_cards name cards)
  len_of_named place cards held =
      paired_len (set.len cards) (λ old card. name old ≡ card) cards (named_cards name cards) (omega arith)
      (λ old in'. (name old, in_named name cards old in', refl))
      (λ a b c in_a in_b e f. renaming.apart a b (named.live place a (held a in_a)).0
      (named.live place b (held b in_b)).0 (e ∙ sym f))

  masters_named : (strain : Strain) (leader : Place) (cards : Cards) → AreMasters (at h strain leader []) cards →
      ((card other : Card) (place : Place) → set.contains cards card ≡ true → place ≢ leader →
      set.contains (hand_of h place) other ≡ true → other.suit ≡ card.suit → ownership.is_known card ≡ true) →
      AreMasters (at hands strain leader []) (named_cards name cards)
  masters_named strain leader cards are known = record {
    held = λ card in'.
        let old = named_old name cards card in' in
        subst (λ x. set.contains (hand_of hands leader) x ≡ true) old.2
        (named.into leader old.0 (are.held old.0 old.1));
    unbeaten = λ card other place in' ne there.
        let old = named_old name cards card in' in
        let beside = named.onto place other there in
        let mine = named.live leader old.0 (are.held old.0 old.1) in
        let theirs = named.live place beside.0 beside.1 in
        subst (λ x. strength_in strain x other < strength_in strain x x) old.2
        (subst (λ y. strength_in strain (name old.0) y < strength_in strain (name old.0) (name old.0)) beside.2
        (subst (λ suit. strength (trump_of strain) suit (name beside.0) < strength (trump_of strain) suit (name old.0))
        (sym (renaming.suit old.0 mine.0))
        (stronger_stays ownership name (trump_of strain) old.0.suit beside.0 old.0 renaming theirs.0 mine.0
        (λ e. ne (sym theirs.1 ∙ e ∙ mine.1))
        (λ suits. or_right _ _ (known old.0 beside.0 place old.1 ne beside.1 suits))
        (are.unbeaten old.0 beside.0 place old.1 ne beside.1))));
  }

  trumps_named : (strain : Strain) (holder : Place) (cards : Cards) →
      AreBestTrumps (at h strain holder []) holder cards →
      ((card other : Card) (place : Place) → set.contains cards card ≡ true → side_of place ≢ side_of holder →
      set.contains (hand_of h place) other ≡ true → other.suit ≡ card.suit → ownership.is_known card ≡ true) →
      AreBestTrumps (at hands strain holder []) holder (named_cards name cards)
  trumps_named strain holder cards are known = record {
    held = λ card in'.
        let old = named_old name cards card in' in
        subst (λ x. set.contains (hand_of hands holder) x ≡ true) old.2
        (named.into holder old.0 (are.held old.0 old.1));
    trumps = λ card in'.
        let old = named_old name cards card in' in
        let mine = named.live holder old.0 (are.held old.0 old.1) in
        subst (λ x. is_trump (trump_of strain) x ≡ true) old.2
        (same_trump (trump_of strain) (name old.0) old.0 (renaming.suit old.0 mine.0) ∙ are.trumps old.0 old.1);
    higher = λ card other place in' ne there is.
        let old = named_old name cards card in' in
        let beside = named.onto place other there in
        let mine = named.live holder old.0 (are.held old.0 old.1) in
        let theirs = named.live place beside.0 beside.1 in
        let trump : is_trump (trump_of strain) beside.0 ≡ true =
        sym (same_trump (trump_of strain) (name beside.0) beside.0 (renaming.suit beside.0 theirs.0))
        ∙ ap (is_trump (trump_of strain)) beside.2 ∙ is in
        let suits = both_trumps (trump_of strain) beside.0 old.0 trump (are.trumps old.0 old.1) in
        subst (λ x. height other.rank < height x.rank) old.2
        (subst (λ y. height y.rank < height (name old.0).rank) beside.2
        (renaming.order beside.0 old.0 theirs.0 mine.0
        (or_right _ _ (known old.0 beside.0 place old.1 ne beside.1 suits))
        (λ e. ne (ap side_of (sym theirs.1 ∙ e ∙ mine.1))) suits
        (are.higher old.0 beside.0 place old.1 ne beside.1 trump)));
  }

  -- no more of them, whoever has them
  pub no_more_named : (cards : Cards) → set.len (named_cards name cards) ≤ set.len cards
  no_more_named cards =
      paired_len (set.len (named_cards name cards)) (λ card old. name old ≡ card) (named_cards name cards) cards
      (omega arith) (λ card in'. named_old name cards card in') (λ a b c in_a in_b e f. sym e ∙ f)

  -- of a suit each player has no more cards, and of some cards there are as many
  hand_suited : (place : Place) (suit : Suit) →
      set.len (set.retain (hand_of hands place) (is_of suit)) ≤ set.len (set.retain (hand_of h place) (is_of suit))
  hand_suited place suit =
      paired_len (set.len (set.retain (hand_of hands place) (is_of suit))) (λ card old. name old ≡ card)
      (set.retain (hand_of hands place) (is_of suit)) (set.retain (hand_of h place) (is_of suit)) (omega arith)
      (λ card in'.
      let had = suit_had (hand_of hands place) suit card in' in
      let old = named.onto place card had.0 in
      let same = ap (λ s. nat_eq (suit_number suit) (suit_number s))
      (sym (renaming.suit old.0 (named.live place old.0 old.1).0) ∙ ap (λ x. x.suit) old.2) in
      (old.0, has_suit (hand_of h place) suit old.0 old.1 (same ∙ had.1), old.2))
      (λ a b c in_a in_b e f. sym e ∙ f)

  cards_suited : (place : Place) (cards : Cards) (suit : Suit) →
      ((card : Card) → set.contains cards card ≡ true → set.contains (hand_of h place) card ≡ true) →
      set.len (set.retain cards (is_of suit)) ≤ set.len (set.retain (named_cards name cards) (is_of suit))
  cards_suited place cards suit held =
      let live = λ (card : Card) (in' : set.contains (set.retain cards (is_of suit)) card ≡ true).
      (named.live place card (held card (suit_had cards suit card in').0)).0 in
      paired_len (set.len (set.retain cards (is_of suit))) (λ old card. name old ≡ card)
      (set.retain cards (is_of suit)) (set.retain (named_cards name cards) (is_of suit)) (omega arith)
      (λ old in'.
      let had = suit_had cards suit old in' in
      let same = ap (λ s. nat_eq (suit_number suit) (suit_number s)) (renaming.suit old (live old in')) in
      (name old, has_suit (named_cards name cards) suit (name old) (in_named name cards old had.0) (same ∙ had.1), refl))
      (λ a b c in_a in_b e f. renaming.apart a b (live a in_a) (live b in_b) (e ∙ sym f))

  runners_named : (strain : Strain) (leader : Place) (cards masters : Cards) →
      AreRunners (at h strain leader []) cards masters →
      ((card other : Card) (place : Place) → set.contains masters card ≡ true → place ≢ leader →
      set.contains (hand_of h place) other ≡ true → other.suit ≡ card.suit → ownership.is_known card ≡ true) →
      AreRunners (at hands strain leader []) (named_cards name cards) (named_cards name masters)
  runners_named strain leader cards masters are known = record {
    held = λ card in'.
        let old = named_old name cards card in' in
        subst (λ x. set.contains (hand_of hands leader) x ≡ true) old.2
        (named.into leader old.0 (are.held old.0 old.1));
    among = λ card in'.
        let old = named_old name masters card in' in
        subst (λ x. set.contains (named_cards name cards) x ≡ true) old.2
        (in_named name cards old.0 (are.among old.0 old.1));
    unbeaten = masters_named strain leader masters are.unbeaten known;
    long = λ card other place in' ne there.
        let old = named_old name cards card in' in
        let beside = named.onto place other there in
        let mine = named.live leader old.0 (are.held old.0 old.1) in
        let theirs = named.live place beside.0 beside.1 in
        elim (are.long old.0 beside.0 place old.1 ne beside.1) [
          | inl is ↦ inl (subst (λ x. set.contains (named_cards name masters) x ≡ true) old.2
              (in_named name masters old.0 is))
          | inr both ↦ inr (
            ap (is_trump (trump_of strain)) (sym beside.2)
                ∙ same_trump (trump_of strain) (name beside.0) beside.0 (renaming.suit beside.0 theirs.0) ∙ both.0,
            subst (λ suit. set.len (set.retain (hand_of hands place) (is_of suit))
                ≤ set.len (set.retain (named_cards name masters) (is_of suit)))
                (sym (renaming.suit old.0 mine.0) ∙ ap (λ x. x.suit) old.2)
                (omega (
                  arith,
                  both.1,
                  hand_suited place old.0.suit,
                  cards_suited leader masters old.0.suit are.unbeaten.held,
                )),
          )
        ];
  }

  reach_named : (strain : Strain) (leader place : Place) (own cards masters : Cards) →
      ((card : Card) → set.contains own card ≡ true → set.contains (hand_of h leader) card ≡ true) →
      AreInReach (at h strain leader []) place own cards masters →
      ((card other : Card) (player : Place) → set.contains masters card ≡ true → player ≢ place →
      set.contains (hand_of h player) other ≡ true → other.suit ≡ card.suit → ownership.is_known card ≡ true) →
      AreInReach (at hands strain leader []) place (named_cards name own) (named_cards name cards)
      (named_cards name masters)
  reach_named strain leader place own cards masters held are known = record {
    runners = runners_named strain place cards masters are.runners known;
    apart = λ card other in' there e.
        let mine = named_old name own card in' in
        let theirs = named_old name cards other there in
        are.apart mine.0 theirs.0 mine.1 theirs.1
        (sym (renaming.suit mine.0 (named.live leader mine.0 (held mine.0 mine.1)).0) ∙ ap (λ x. x.suit) mine.2 ∙ e
        ∙ ap (λ x. x.suit) (sym theirs.2)
        ∙ renaming.suit theirs.0 (named.live place theirs.0 (are.runners.held theirs.0 theirs.1)).0);
    entry = λ card in'.
        let old = named_old name cards card in' in
        let has = are.entry old.0 old.1 in
        record {
          own = name has.own;
          entry = name has.entry;
          held = named.into leader has.own has.held;
          there = in_named name masters has.entry has.there;
          suit = renaming.suit has.own (named.live leader has.own has.held).0 ∙ has.suit
              ∙ sym (renaming.suit has.entry (named.live place has.entry
              (are.runners.held has.entry (are.runners.among has.entry has.there))).0);
        };
    room = λ card in'.
        let old = named_old name cards card in' in
        omega (arith, are.room old.0 old.1, no_more_named own, no_more_named cards, len_named place);
  }

  long_named : (strain : Strain) (holder : Place) (cards beaters : Cards) →
      AreLongTrumps (at h strain holder []) holder cards beaters →
      ((card other : Card) (place : Place) → set.contains cards card ≡ true → side_of place ≢ side_of holder →
      set.contains (hand_of h place) other ≡ true → other.suit ≡ card.suit →
      (set.contains beaters other ≡ true) ⊎ (ownership.is_known card ≡ true)) →
      AreLongTrumps (at hands strain holder []) holder (named_cards name cards) (named_cards name beaters)
  long_named strain holder cards beaters are known = record {
    held = λ card in'.
        let old = named_old name cards card in' in
        subst (λ x. set.contains (hand_of hands holder) x ≡ true) old.2
        (named.into holder old.0 (are.held old.0 old.1));
    trumps = λ card in'.
        let old = named_old name cards card in' in
        let mine = named.live holder old.0 (are.held old.0 old.1) in
        subst (λ x. is_trump (trump_of strain) x ≡ true) old.2
        (same_trump (trump_of strain) (name old.0) old.0 (renaming.suit old.0 mine.0) ∙ are.trumps old.0 old.1);
    lower = λ card other place in' ne there is.
        let old = named_old name cards card in' in
        let beside = named.onto place other there in
        let mine = named.live holder old.0 (are.held old.0 old.1) in
        let theirs = named.live place beside.0 beside.1 in
        let trump : is_trump (trump_of strain) beside.0 ≡ true =
        sym (same_trump (trump_of strain) (name beside.0) beside.0 (renaming.suit beside.0 theirs.0))
        ∙ ap (is_trump (trump_of strain)) beside.2 ∙ is in
        let suits = both_trumps (trump_of strain) beside.0 old.0 trump (are.trumps old.0 old.1) in
        let counted = λ (beats : set.contains beaters beside.0 ≡ true).
        subst (λ x. set.contains (named_cards name beaters) x ≡ true) beside.2
        (in_named name beaters beside.0 beats) in
        elim (are.lower old.0 beside.0 place old.1 ne beside.1 trump) [
          | inl beats ↦ inl (counted beats)
          | inr less ↦ elim (known old.0 beside.0 place old.1 ne beside.1 suits) [
            | inl beats ↦ inl (counted beats)
            | inr ranked ↦ inr (subst (λ x. height other.rank < height x.rank) old.2
                (subst (λ y. height y.rank < height (name old.0).rank) beside.2
                (renaming.order beside.0 old.0 theirs.0 mine.0 (or_right _ _ ranked)
                (λ e. ne (ap side_of (sym theirs.1 ∙ e ∙ mine.1))) suits less)))
          ]
        ];
  }

  guarded_named : (strain : Strain) (leader holder : Place) (best second guard : Card) →
      IsGuarded (at h strain leader []) holder best second guard → ownership.is_known second ≡ true →
      IsGuarded (at hands strain leader []) holder (name best) (name second) (name guard)
  guarded_named strain leader holder best second guard is known =
      let mine = named.live holder second is.held in
      let beside = named.live holder guard is.guarded in
      record {
        held = named.into holder second is.held;
        guarded = named.into holder guard is.guarded;
        apart = λ e. is.apart (renaming.apart guard second beside.0 mine.0 e);
        trump = same_trump (trump_of strain) (name second) second (renaming.suit second mine.0) ∙ is.trump;
        guard_trump = same_trump (trump_of strain) (name guard) guard (renaming.suit guard beside.0) ∙ is.guard_trump;
        right = named.into (left_of (partner_of holder)) best is.right;
        higher = λ other place ne there trump not_best.
            let old = named.onto place other there in
            let theirs = named.live place old.0 old.1 in
            let was : is_trump (trump_of strain) old.0 ≡ true =
            sym (same_trump (trump_of strain) (name old.0) old.0 (renaming.suit old.0 theirs.0))
            ∙ ap (is_trump (trump_of strain)) old.2 ∙ trump in
            subst (λ y. height y.rank < height (name second).rank) old.2
            (renaming.order old.0 second theirs.0 mine.0 (or_right _ _ known)
            (λ e. ne (ap side_of (sym theirs.1 ∙ e ∙ mine.1)))
            (both_trumps (trump_of strain) old.0 second was is.trump)
            (is.higher old.0 place ne old.1 was (λ e. not_best (sym old.2 ∙ ap name e))));
      }

  -- a trick under way
  position_led : (strain : Strain) (leader : Place) (led : Card) → ownership.is_live led ≡ true →
      IsPosition (at h strain leader (led ∷ [])) → IsPosition (at hands strain leader (name led ∷ []))
  position_led strain leader led live valid = record {
    apart = position_apart valid.apart;
    trick = λ place. false_from_ne_true _ (λ there.
        let old = named.onto place (name led) there in
        true≢false (sym old.1 ∙ ap (set.contains (hand_of h place))
        (renaming.apart old.0 led (named.live place old.0 old.1).0 live old.2) ∙ valid.trick place));
    equal = λ place other. omega (arith, len_named place, len_named other, valid.equal place other);
  }

  of_named : (led card : Card) → ownership.is_live led ≡ true → ownership.is_live card ≡ true →
      is_of (name led).suit (name card) ≡ is_of led.suit card
  of_named led card live_led live_card =
      ap (λ suit. is_of suit (name card)) (renaming.suit led live_led)
      ∙ ap (λ suit. nat_eq (suit_number led.suit) (suit_number suit)) (renaming.suit card live_card)

  -- what may be played to a lead
  into_legal : (place : Place) (led card : Card) → ownership.is_live led ≡ true →
      set.contains (legal_of (hand_of h place) (led ∷ [])) card ≡ true →
      set.contains (legal_of (hand_of hands place) (name led ∷ [])) (name card) ≡ true
  into_legal place led card live may =
      let facts = legal_follows (hand_of h place) (led ∷ []) card may in
      follows_legal (hand_of hands place) (name led ∷ []) (name card) (named.into place card facts.0)
      (elim facts.1 [
        | inl same ↦ inl (of_named led card live (named.live place card facts.0).0 ∙ same)
        | inr none ↦ inr (λ other there.
            let old = named.onto place other there in
            ap (is_of (name led).suit) (sym old.2) ∙ of_named led old.0 live (named.live place old.0 old.1).0
            ∙ none old.0 old.1)
      ])

  onto_legal : (place : Place) (led card : Card) → ownership.is_live led ≡ true →
      set.contains (legal_of (hand_of hands place) (name led ∷ [])) card ≡ true →
      (old : Card) × (set.contains (legal_of (hand_of h place) (led ∷ [])) old ≡ true) × (name old ≡ card)
  onto_legal place led card live may =
      let facts = legal_follows (hand_of hands place) (name led ∷ []) card may in
      let old = named.onto place card facts.0 in (
        old.0,
        follows_legal (hand_of h place) (led ∷ []) old.0 old.1 (elim facts.1 [
          | inl same ↦ inl (sym (of_named led old.0 live (named.live place old.0 old.1).0)
              ∙ ap (is_of (name led).suit) old.2 ∙ same)
          | inr none ↦ inr (λ other there. sym (of_named led other live (named.live place other there).0)
              ∙ none (name other) (named.into place other there))
        ]),
        old.2,
      )

  winning_named : (strain : Strain) (leader holder : Place) (led card : Card) →
      IsLiveCardOf ownership leader led → IsWinningCard (at h strain leader (led ∷ [])) led holder card →
      (led.suit ≡ card.suit → ownership.is_known card ≡ true) →
      ((other : Card) → set.contains (legal_of (hand_of h (partner_of leader)) (led ∷ [])) other ≡ true →
      other.suit ≡ card.suit → ownership.is_known card ≡ true) →
      IsWinningCard (at hands strain leader (name led ∷ [])) (name led) holder (name card)
  winning_named strain leader holder led card played is known_first known_third =
      let mine = named.live holder card (legal_follows (hand_of h holder) (led ∷ []) card is.may).0 in
      let suit = sym (renaming.suit led played.0) in
      record {
        opponent = is.opponent;
        may = into_legal holder led card played.0 is.may;
        first = subst (λ s. strength (trump_of strain) s (name led) < strength (trump_of strain) s (name card)) suit
            (stronger_stays ownership name (trump_of strain) led.suit led card renaming played.0 mine.0
            (λ e. is.opponent (ap side_of (sym mine.1 ∙ sym e ∙ played.1)))
            (λ suits. or_right _ _ (known_first suits)) is.first);
        third = λ other there.
            let old = onto_legal (partner_of leader) led other played.0 there in
            let theirs = named.live (partner_of leader) old.0
            (legal_follows (hand_of h (partner_of leader)) (led ∷ []) old.0 old.1).0 in
            subst (λ x. strength_in strain (name led) x < strength_in strain (name led) (name card)) old.2
            (subst (λ s. strength (trump_of strain) s (name old.0) < strength (trump_of strain) s (name card)) suit
            (stronger_stays ownership name (trump_of strain) led.suit old.0 card renaming theirs.0 mine.0
            (λ e. is.opponent (ap side_of (sym mine.1 ∙ sym e ∙ theirs.1 ∙ opposite leader) ∙ partners leader))
            (λ suits. or_right _ _ (known_third old.0 old.1 suits)) (is.third old.0 old.1)));
      }

-- what a side takes answers the question
pub answered : (side : Side) (k more : ℕ) (p q : Position) (target : ℕ) → AreEnough side k p target → k ≤ more →
    cards_left q ≡ cards_left p → length q.table ≡ length p.table →
    TakesAtLeast side more q → nat_le target (tricks (cards_left p) q) ≡ wanted_answer side
answered NorthSouth k more p q target enough fewer same as_many takes =
    le-leb target _ (omega (arith, enough, fewer, takes, ap (λ n. tricks n q) same))
answered EastWest k more p q target enough fewer same as_many takes =
    lt-leb target _ (omega (arith, enough, fewer, takes, same, ap (λ n. tricks n q) same, as_many))

-- runners take a trick each, and the partner's in reach too
runners_at : (h : Hands) (strain : Strain) (leader : Place) (cards masters partners theirs : Cards) →
    IsPosition (at h strain leader []) → AreRunners (at h strain leader []) cards masters →
    AreInReach (at h strain leader []) (partner_of leader) cards partners theirs →
    TakesAtLeast (side_of leader) (set.len cards + set.len partners) (at h strain leader [])
runners_at h strain leader cards masters partners theirs valid are reach =
    runners.taken strain (cards_left (at h strain leader [])) h leader cards masters partners theirs valid (omega arith)
    (record {
      runners = are;
      reach = subst (λ place. AreInReach (at h strain leader []) place cards partners theirs) (opposite leader) reach;
    })

runners_found_at : (h : Hands) (strain : Strain) (leader : Place) (cards masters partners theirs known : Cards) (target : ℕ) →
    IsPosition (at h strain leader []) → AreRunners (at h strain leader []) cards masters →
    AreInReach (at h strain leader []) (partner_of leader) cards partners theirs →
    AreMastersKnown (at h strain leader []) masters known →
    AreMastersKnown (at h strain (partner_of leader) []) theirs known →
    AreEnough (side_of leader) (set.len cards + set.len partners) (at h strain leader []) target →
    IsFound (at h strain leader []) target known (wanted_answer (side_of leader))
runners_found_at h strain leader cards masters partners theirs known target valid are reach are_known also_known enough
    ownership owned tight_p name hands renaming named =
    let own = knowing ownership known in
    answered (side_of leader) (set.len cards + set.len partners)
    (set.len (named_cards name cards) + set.len (named_cards name partners)) (at h strain leader [])
    (at hands strain leader []) target enough
    (omega (
      arith,
      len_of_named own name renaming h hands named leader cards are.held,
      len_of_named own name renaming h hands named (partner_of leader) partners reach.runners.held,
    ))
    (left_named own name renaming h hands named strain leader) refl
    (runners_at hands strain leader (named_cards name cards) (named_cards name masters) (named_cards name partners)
    (named_cards name theirs)
    (position_named own name renaming h hands named strain leader valid)
    (runners_named own name renaming h hands named strain leader cards masters are are_known)
    (reach_named own name renaming h hands named strain leader (partner_of leader) cards partners theirs are.held reach
    also_known))

-- best trumps take a trick each
trumps_at : (h : Hands) (strain : Strain) (leader holder : Place) (cards : Cards) →
    IsPosition (at h strain leader []) → AreBestTrumps (at h strain holder []) holder cards →
    TakesAtLeast (side_of holder) (set.len cards) (at h strain leader [])
trumps_at h strain leader holder cards valid are =
    trumps.taken strain holder (cards_left (at h strain leader [])) h leader [] cards (omega arith) valid are tt

-- the leader does not matter
other_leader : (h : Hands) (strain : Strain) (leader holder : Place) (cards : Cards) →
    AreBestTrumps (at h strain leader []) holder cards → AreBestTrumps (at h strain holder []) holder cards
other_leader h strain leader holder cards are = record { held = are.held; trumps = are.trumps; higher = are.higher }

trumps_found_at : (h : Hands) (strain : Strain) (leader holder : Place) (cards known : Cards) (target : ℕ) →
    IsPosition (at h strain leader []) → AreBestTrumps (at h strain leader []) holder cards →
    AreTrumpsKnown (at h strain leader []) holder cards known →
    AreEnough (side_of holder) (set.len cards) (at h strain leader []) target →
    IsFound (at h strain leader []) target known (wanted_answer (side_of holder))
trumps_found_at h strain leader holder cards known target valid are are_known enough ownership owned tight_p name hands
    renaming named =
    let own = knowing ownership known in
    answered (side_of holder) (set.len cards) (set.len (named_cards name cards)) (at h strain leader [])
    (at hands strain leader []) target enough
    (len_of_named own name renaming h hands named holder cards are.held)
    (left_named own name renaming h hands named strain leader) refl
    (trumps_at hands strain leader holder (named_cards name cards)
    (position_named own name renaming h hands named strain leader valid)
    (trumps_named own name renaming h hands named strain holder cards (other_leader h strain leader holder cards are)
    are_known))

-- a trump beats one at most
long_at : (h : Hands) (strain : Strain) (leader holder : Place) (cards beaters : Cards) →
    IsPosition (at h strain leader []) → AreLongTrumps (at h strain holder []) holder cards beaters →
    TakesAtLeast (side_of holder) (set.len cards - set.len beaters) (at h strain leader [])
long_at h strain leader holder cards beaters valid are =
    long.taken strain holder (cards_left (at h strain leader [])) (set.len cards - set.len beaters) h leader cards
    beaters (omega arith) valid are (omega arith)

long_of_holder : (h : Hands) (strain : Strain) (leader holder : Place) (cards beaters : Cards) →
    AreLongTrumps (at h strain leader []) holder cards beaters →
    AreLongTrumps (at h strain holder []) holder cards beaters
long_of_holder h strain leader holder cards beaters are =
    record { held = are.held; trumps = are.trumps; lower = are.lower }

long_found_at : (h : Hands) (strain : Strain) (leader holder : Place) (cards beaters known : Cards) (target : ℕ) →
    IsPosition (at h strain leader []) → AreLongTrumps (at h strain leader []) holder cards beaters →
    AreLongTrumpsKnown (at h strain leader []) holder cards beaters known →
    AreEnough (side_of holder) (set.len cards - set.len beaters) (at h strain leader []) target →
    IsFound (at h strain leader []) target known (wanted_answer (side_of holder))
long_found_at h strain leader holder cards beaters known target valid are are_known enough ownership owned tight_p name
    hands renaming named =
    let own = knowing ownership known in
    answered (side_of holder) (set.len cards - set.len beaters)
    (set.len (named_cards name cards) - set.len (named_cards name beaters)) (at h strain leader [])
    (at hands strain leader []) target enough
    (omega (
      arith,
      len_of_named own name renaming h hands named holder cards are.held,
      no_more_named own name renaming h hands named beaters,
    ))
    (left_named own name renaming h hands named strain leader) refl
    (long_at hands strain leader holder (named_cards name cards) (named_cards name beaters)
    (position_named own name renaming h hands named strain leader valid)
    (long_named own name renaming h hands named strain holder cards beaters
    (long_of_holder h strain leader holder cards beaters are) are_known))

-- at the left of one's right-hand opponent sits oneself
around : (place : Place) → left_of (left_of (partner_of place)) ≡ place
around North = refl
around East = refl
around South = refl
around West = refl

-- a guarded second best trump takes a trick
guarded_at : (h : Hands) (strain : Strain) (leader holder : Place) (best second guard : Card) →
    IsPosition (at h strain leader []) → IsGuarded (at h strain leader []) holder best second guard →
    side_of leader ≢ side_of holder → TakesAtLeast (side_of holder) 1 (at h strain leader [])
guarded_at h strain leader holder best second guard valid is enemy =
    let before = left_of (partner_of holder) in
    let there = sym (around holder) in
    subst (λ place. TakesAtLeast (side_of place) 1 (at h strain leader [])) (around holder)
    (guarded.taken strain before best second guard is.trump is.guard_trump is.apart
    (cards_left (at h strain leader [])) h (omega arith) (record {
      held = subst (λ place. set.contains (hand_of h place) second ≡ true) there is.held;
      guarded = subst (λ place. set.contains (hand_of h place) guard ≡ true) there is.guarded;
      right = is.right;
      higher = λ other place ne. is.higher other place (λ e. ne (e ∙ ap side_of there));
    }) leader valid (λ e. enemy (e ∙ ap side_of (around holder))))

guarded_found_at : (h : Hands) (strain : Strain) (leader holder : Place) (best second guard : Card) (known : Cards)
    (target : ℕ) → IsPosition (at h strain leader []) →
    IsGuarded (at h strain leader []) holder best second guard → side_of leader ≢ side_of holder →
    set.contains known second ≡ true → AreEnough (side_of holder) 1 (at h strain leader []) target →
    IsFound (at h strain leader []) target known (wanted_answer (side_of holder))
guarded_found_at h strain leader holder best second guard known target valid is enemy in_known enough ownership owned
    tight_p name hands renaming named =
    let own = knowing ownership known in
    answered (side_of holder) 1 1 (at h strain leader []) (at hands strain leader []) target enough (omega arith)
    (left_named own name renaming h hands named strain leader) refl
    (guarded_at hands strain leader holder (name best) (name second) (name guard)
    (position_named own name renaming h hands named strain leader valid)
    (guarded_named own name renaming h hands named strain leader holder best second guard is in_known) enemy)

-- a card that beats the lead and all of third hand's
winning_found_at : (h : Hands) (strain : Strain) (leader holder : Place) (led card : Card) (known : Cards)
    (target : ℕ) → IsPosition (at h strain leader (led ∷ [])) →
    IsWinningCard (at h strain leader (led ∷ [])) led holder card →
    IsWinningCardKnown (at h strain leader (led ∷ [])) led card known →
    AreEnough (side_of holder) 1 (at h strain leader (led ∷ [])) target →
    IsFound (at h strain leader (led ∷ [])) target known (wanted_answer (side_of holder))
winning_found_at h strain leader holder led card known target valid is is_known enough ownership owned tight_p name
    hands renaming named =
    let own = knowing ownership known in
    answered (side_of holder) 1 1 (at h strain leader (led ∷ [])) (at hands strain leader (name led ∷ [])) target enough
    (omega arith) (left_named own name renaming h hands named strain leader) refl
    (winning.taken hands strain leader holder (name led) (name card)
    (position_led own name renaming h hands named strain leader led owned.on_table.0 valid)
    (winning_named own name renaming h hands named strain leader holder led card owned.on_table is is_known.first
    is_known.third))

-- at the beginning of a trick
pub at_start : (P : Position → Type 0) (p : Position) → p.table ≡ [] → P (at p.hands p.strain p.leader []) → P p
at_start P p none here = subst (λ table. P (at p.hands p.strain p.leader table)) (sym none) here

pub from_start : (P : Position → Type 0) (p : Position) → p.table ≡ [] → P p → P (at p.hands p.strain p.leader [])
from_start P p none here = subst (λ table. P (at p.hands p.strain p.leader table)) none here

pub runners_take : (p : Position) (cards masters partners theirs : Cards) → IsPosition p → p.table ≡ [] →
    AreRunners p cards masters → AreInReach p (partner_of p.leader) cards partners theirs →
    TakesAtLeast (side_of p.leader) (set.len cards + set.len partners) p
runners_take p cards masters partners theirs valid none are reach =
    at_start (λ q. TakesAtLeast (side_of p.leader) (set.len cards + set.len partners) q) p none
    (runners_at p.hands p.strain p.leader cards masters partners theirs (from_start IsPosition p none valid)
    (from_start (λ q. AreRunners q cards masters) p none are)
    (from_start (λ q. AreInReach q (partner_of p.leader) cards partners theirs) p none reach))

pub runners_found : (p : Position) (cards masters partners theirs known : Cards) (target : ℕ) → IsPosition p →
    p.table ≡ [] → AreRunners p cards masters → AreInReach p (partner_of p.leader) cards partners theirs →
    AreMastersKnown p masters known → AreMastersKnown (led_by (partner_of p.leader) p) theirs known →
    AreEnough (side_of p.leader) (set.len cards + set.len partners) p target →
    IsFound p target known (wanted_answer (side_of p.leader))
runners_found p cards masters partners theirs known target valid none are reach are_known also_known enough =
    at_start (λ q. IsFound q target known (wanted_answer (side_of p.leader))) p none
    (runners_found_at p.hands p.strain p.leader cards masters partners theirs known target
    (from_start IsPosition p none valid) (from_start (λ q. AreRunners q cards masters) p none are)
    (from_start (λ q. AreInReach q (partner_of p.leader) cards partners theirs) p none reach) are_known also_known
    (from_start (λ q. AreEnough (side_of p.leader) (set.len cards + set.len partners) q target) p none enough))

pub trumps_take : (p : Position) (holder : Place) (cards : Cards) → IsPosition p → p.table ≡ [] →
    AreBestTrumps p holder cards → TakesAtLeast (side_of holder) (set.len cards) p
trumps_take p holder cards valid none are =
    at_start (λ q. TakesAtLeast (side_of holder) (set.len cards) q) p none
    (trumps_at p.hands p.strain p.leader holder cards (from_start IsPosition p none valid)
    (other_leader p.hands p.strain p.leader holder cards (from_start (λ q. AreBestTrumps q holder cards) p none are)))

pub trumps_found : (p : Position) (holder : Place) (cards known : Cards) (target : ℕ) → IsPosition p →
    p.table ≡ [] → AreBestTrumps p holder cards → AreTrumpsKnown p holder cards known →
    AreEnough (side_of holder) (set.len cards) p target → IsFound p target known (wanted_answer (side_of holder))
trumps_found p holder cards known target valid none are are_known enough =
    at_start (λ q. IsFound q target known (wanted_answer (side_of holder))) p none
    (trumps_found_at p.hands p.strain p.leader holder cards known target (from_start IsPosition p none valid)
    (from_start (λ q. AreBestTrumps q holder cards) p none are) are_known
    (from_start (λ q. AreEnough (side_of holder) (set.len cards) q target) p none enough))

pub long_take : (p : Position) (holder : Place) (cards beaters : Cards) → IsPosition p → p.table ≡ [] →
    AreLongTrumps p holder cards beaters → TakesAtLeast (side_of holder) (set.len cards - set.len beaters) p
long_take p holder cards beaters valid none are =
    at_start (λ q. TakesAtLeast (side_of holder) (set.len cards - set.len beaters) q) p none
    (long_at p.hands p.strain p.leader holder cards beaters (from_start IsPosition p none valid)
    (long_of_holder p.hands p.strain p.leader holder cards beaters
    (from_start (λ q. AreLongTrumps q holder cards beaters) p none are)))

pub long_found : (p : Position) (holder : Place) (cards beaters known : Cards) (target : ℕ) → IsPosition p →
    p.table ≡ [] → AreLongTrumps p holder cards beaters → AreLongTrumpsKnown p holder cards beaters known →
    AreEnough (side_of holder) (set.len cards - set.len beaters) p target →
    IsFound p target known (wanted_answer (side_of holder))
long_found p holder cards beaters known target valid none are are_known enough =
    at_start (λ q. IsFound q target known (wanted_answer (side_of holder))) p none
    (long_found_at p.hands p.strain p.leader holder cards beaters known target (from_start IsPosition p none valid)
    (from_start (λ q. AreLongTrumps q holder cards beaters) p none are) are_known
    (from_start (λ q. AreEnough (side_of holder) (set.len cards - set.len beaters) q target) p none enough))

pub guarded_takes : (p : Position) (holder : Place) (best second guard : Card) → IsPosition p → p.table ≡ [] →
    side_of p.leader ≢ side_of holder → IsGuarded p holder best second guard → TakesAtLeast (side_of holder) 1 p
guarded_takes p holder best second guard valid none enemy is =
    at_start (λ q. TakesAtLeast (side_of holder) 1 q) p none
    (guarded_at p.hands p.strain p.leader holder best second guard (from_start IsPosition p none valid)
    (from_start (λ q. IsGuarded q holder best second guard) p none is) enemy)

pub guarded_found : (p : Position) (holder : Place) (best second guard : Card) (known : Cards) (target : ℕ) →
    IsPosition p → p.table ≡ [] → side_of p.leader ≢ side_of holder → IsGuarded p holder best second guard →
    set.contains known second ≡ true → AreEnough (side_of holder) 1 p target →
    IsFound p target known (wanted_answer (side_of holder))
guarded_found p holder best second guard known target valid none enemy is in_known enough =
    at_start (λ q. IsFound q target known (wanted_answer (side_of holder))) p none
    (guarded_found_at p.hands p.strain p.leader holder best second guard known target
    (from_start IsPosition p none valid) (from_start (λ q. IsGuarded q holder best second guard) p none is) enemy
    in_known (from_start (λ q. AreEnough (side_of holder) 1 q target) p none enough))

-- with one card on the table
pub winning_takes : (p : Position) (led : Card) (holder : Place) (card : Card) → IsPosition p → p.table ≡ led ∷ [] →
    IsWinningCard p led holder card → TakesAtLeast (side_of holder) 1 p
winning_takes p led holder card valid table is =
    subst (λ table. TakesAtLeast (side_of holder) 1 (at p.hands p.strain p.leader table)) (sym table)
    (winning.taken p.hands p.strain p.leader holder led card
    (subst (λ table. IsPosition (at p.hands p.strain p.leader table)) table valid)
    (subst (λ table. IsWinningCard (at p.hands p.strain p.leader table) led holder card) table is))

pub winning_found : (p : Position) (led : Card) (holder : Place) (card : Card) (known : Cards) (target : ℕ) →
    IsPosition p → p.table ≡ led ∷ [] → IsWinningCard p led holder card → IsWinningCardKnown p led card known →
    AreEnough (side_of holder) 1 p target → IsFound p target known (wanted_answer (side_of holder))
winning_found p led holder card known target valid table is is_known enough =
    subst (λ table. IsFound (at p.hands p.strain p.leader table) target known (wanted_answer (side_of holder)))
    (sym table)
    (winning_found_at p.hands p.strain p.leader holder led card known target
    (subst (λ table. IsPosition (at p.hands p.strain p.leader table)) table valid)
    (subst (λ table. IsWinningCard (at p.hands p.strain p.leader table) led holder card) table is)
    (subst (λ table. IsWinningCardKnown (at p.hands p.strain p.leader table) led card known) table is_known)
    (subst (λ table. AreEnough (side_of holder) 1 (at p.hands p.strain p.leader table) target) table enough))
