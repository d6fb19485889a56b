-- Runners take a trick each, and then the partner's do: others follow suit, so each round leaves them a card less of it.
use Rattle.std.proofs.Common.{◌≡◌, ◌≢◌, ◌⊎◌, ℕ, ◌+◌, ◌<◌, ◌≤◌, true, List, [], ◌∷◌, refl, sym, ap, ◌∙◌, subst, inl, inr, arith, zero, suc}
use Rattle.std.specs.Prelude.{nat_eq, not}
use Rattle.std.proofs.lemmas.Bool.{and_from, and_parts, cases_Bool, cases_eq, eq-eqb, eqb-true, false_from_ne_true, not_from_false, true≢false}
use Rattle.std.specs.FinSet as set
use Rattle.cards.specs.declared.card.Card.{Card}
use Rattle.cards.specs.Card.{card_cmp}
use Rattle.cards.specs.CardBits.{card_cmp_total}
use Rattle.cards.specs.Cards.{Cards}
use Rattle.table_terms.specs.declared.place.Place.{Place}
use Rattle.table_terms.specs.declared.strain.Strain.{Strain}
use Rattle.table_terms.specs.declared.suit.Suit.{Suit}
use Rattle.table_terms.specs.Suit.{suit_number}
use Rattle.table_terms.specs.Place.{left_of, side_of}
use Rattle.table_terms.specs.Strain.{trump_of}
use Rattle.cards.specs.Hands.{Hands, hand_of}
use Rattle.cards.specs.Play.{IsApart, IsPosition, Position, cards_left, is_of, legal_of, strength, strength_in, winner, without}
use Rattle.cards.proofs.PlayLemmas.{four_times, has_some, position_after}
use Rattle.double_dummy_laws.proofs.BestTrumpLemmas.{partners}
use Rattle.double_dummy_laws.proofs.CountLemmas.{has_less}
use Rattle.double_dummy_laws.proofs.GuardedTrumpLemmas.{two_cards}
use Rattle.double_dummy_laws.proofs.HandLemmas.{follows_legal, has_without, in_suit, legal_follows, without_had}
use Rattle.double_dummy_laws.proofs.NeighbourLemmas.{one_less_after}
use Rattle.double_dummy_laws.proofs.TakingLemmas.{AreFrom, all_play, at, fewer_within, goes_on, has_removed, held_by, one_plays, removed_had, seat, some_left, some_of, takes_none, trick_won, within}
use Rattle.double_dummy_laws.proofs.WinnerLemmas.{both_of, first_wins, flip, third_wins, turns_1, turns_2, turns_3, unbeaten}
use Rattle.double_dummy_laws.specs.SureTricks.{AreInReach, AreMasters, AreRunners, HasEntry, TakesAtLeast}

-- the cards of a suit
abbrev suited : Cards → Suit → Cards
suited cards suit = set.retain cards (is_of suit)

pub has_suit : (cards : Cards) (suit : Suit) (card : Card) → set.contains cards card ≡ true → is_of suit card ≡ true →
    set.contains (suited cards suit) card ≡ true
has_suit cards suit card held same = in_suit cards suit card ∙ and_from _ _ held same

pub suit_had : (cards : Cards) (suit : Suit) (card : Card) → set.contains (suited cards suit) card ≡ true →
    (set.contains cards card ≡ true) × (is_of suit card ≡ true)
suit_had cards suit card held = and_parts _ _ (sym (in_suit cards suit card) ∙ held)

-- more cards than another set has: one of them isn't there
outside : (hand t : Cards) → set.len t < set.len hand →
    (card : Card) × (set.contains hand card ≡ true) × (set.contains t card ≡ true → ⊥)
outside hand t more =
    elim (cases_eq (set.len (set.difference hand t)) 0) [
      | inl none ↦ absurd (omega (
        arith,
        more,
        within hand t (λ card held. elim (cases_Bool (set.contains t card)) [
          | inl there ↦ there
          | inr out ↦ absurd (omega (
            arith,
            none,
            has_some (set.difference hand t) card
                (set.contains-difference card_cmp_total hand t card ∙ and_from _ _ held (not_from_false _ out)),
          ))
        ]),
      ))
      | inr some ↦
          let one = some_of (set.difference hand t) some in
          let parts = and_parts _ _ (sym (set.contains-difference card_cmp_total hand t one.0) ∙ one.1) in
          (one.0, parts.0, λ there. true≢false (sym parts.1 ∙ ap not there))
    ]

-- who plays to a lead of another suit than these can keep them all, if there is one card more
free : (hand t : Cards) (a b : Card) → ((card : Card) → set.contains t card ≡ true → a.suit ≢ card.suit) →
    set.len t < set.len hand →
    (card : Card) × (set.contains (legal_of hand (a ∷ b ∷ [])) card ≡ true) × (set.contains t card ≡ true → ⊥)
free hand t a b apart more =
    elim (cases_eq (set.len (suited hand a.suit)) 0) [
      | inl none ↦
          let one = outside hand t more in (
            one.0,
            follows_legal hand (a ∷ b ∷ []) one.0 one.1 (inr (λ other held. false_from_ne_true _ (λ same.
                omega (arith, none, has_some (suited hand a.suit) other (has_suit hand a.suit other held same))))),
            one.2,
          )
      | inr some ↦
          let one = some_of (suited hand a.suit) some in
          let had = suit_had hand a.suit one.0 one.1 in (
            one.0,
            follows_legal hand (a ∷ b ∷ []) one.0 had.0 (inl had.1),
            λ in'. apart one.0 in' (both_of a.suit a one.0 (eq-eqb _ _ refl) had.1),
          )
    ]

-- a player has played a card to a lead, of its suit if some are left
record HasFollowed (hand left : Cards) (led : Card) : Type 0 where
  pub card : Card
  pub was : set.contains hand card ≡ true
  pub gone : set.contains left card ≡ true → ⊥
  pub suit : (other : Card) → set.contains left other ≡ true → is_of led.suit other ≡ true →
      is_of led.suit card ≡ true

follows_led : (hand : Cards) (led card other : Card) (more : List Card) →
    set.contains (legal_of hand (led ∷ more)) card ≡ true → set.contains hand other ≡ true →
    is_of led.suit other ≡ true → is_of led.suit card ≡ true
follows_led hand led card other more may held same =
    elim (legal_follows hand (led ∷ more) card may).1 [
      | inl is ↦ is
      | inr none ↦ absurd (true≢false (sym same ∙ none other held))
    ]

-- one of them is led, or there are none of them
abbrev IsFirst : Cards → Card → Type 0
IsFirst m a = (set.contains m a ≡ true) ⊎ ((card : Card) → set.contains m card ≡ true → ⊥)

-- a player had no more cards of the suit than there are masters of it, and so it is after the trick
counts : (hand left m : Cards) (a : Card) (suit : Suit) →
    ((card : Card) → set.contains left card ≡ true → set.contains hand card ≡ true) → HasFollowed hand left a →
    IsFirst m a → set.len (suited hand suit) ≤ set.len (suited m suit) →
    set.len (suited left suit) ≤ set.len (suited (set.remove m a) suit)
counts hand left m a suit fewer followed first few =
    let into = λ (card : Card) (held : set.contains (suited left suit) card ≡ true).
    let had = suit_had left suit card held in has_suit hand suit card (fewer card had.0) had.1 in
    let less : set.len (suited left suit) ≤ set.len (suited hand suit) = within _ _ into in
    elim first [
      | inr none ↦ omega (
        arith,
        less,
        few,
        within (suited m suit) (suited (set.remove m a) suit)
            (λ card held. absurd (none card (suit_had m suit card held).0)),
      )
      | inl in' ↦ elim (cases_Bool (is_of suit a)) [
        | inr other ↦ omega (
          arith,
          less,
          few,
          within (suited m suit) (suited (set.remove m a) suit) (λ card held.
              let had = suit_had m suit card held in
              has_suit (set.remove m a) suit card
              (has_removed m a card had.0 (λ e. true≢false (sym had.1 ∙ ap (is_of suit) e ∙ other))) had.1),
        )
        | inl same ↦
            let one : set.len (suited m suit) ≤ suc (set.len (suited (set.remove m a) suit)) =
            omega (
              arith,
              has_less (suited m suit) a (has_suit m suit a in' same),
              within (set.remove (suited m suit) a) (suited (set.remove m a) suit) (λ card held.
                  let had = removed_had (suited m suit) a card held in
                  let was = suit_had m suit card had.0 in
                  has_suit (set.remove m a) suit card (has_removed m a card was.0 had.1) was.1),
            ) in
            elim (cases_eq (set.len (suited left suit)) 0) [
              | inl none ↦ omega (arith, none)
              | inr some ↦
                  let top = some_of (suited left suit) some in
                  let had = suit_had left suit top.0 top.1 in
                  let led = followed.suit top.0 had.0
                  (ap (λ k. nat_eq k (suit_number top.0.suit)) (sym (eqb-true _ _ same)) ∙ had.1) in
                  let of : is_of suit followed.card ≡ true =
                  ap (λ k. nat_eq k (suit_number followed.card.suit)) (eqb-true _ _ same) ∙ led in
                  omega (
                    arith,
                    one,
                    few,
                    fewer_within (suited left suit) (suited hand suit) followed.card into
                        (has_suit hand suit followed.card followed.was of)
                        (λ held. followed.gone (suit_had left suit followed.card held).0),
                  )
            ]
      ]
    ]

-- what a trick leaves, to which this card was led
record IsPlayed (h g : Hands) (leader : Place) (a : Card) : Type 0 where
  pub fewer : (card : Card) (place : Place) → set.contains (hand_of g place) card ≡ true →
      (set.contains (hand_of h place) card ≡ true) × (card ≢ a)
  pub kept : (card : Card) → set.contains (hand_of h leader) card ≡ true → card ≢ a →
      set.contains (hand_of g leader) card ≡ true
  pub follows : (place : Place) → place ≢ leader → HasFollowed (hand_of h place) (hand_of g place) a

-- the hands after a trick
abbrev after_trick : Hands → Card → Card → Card → Card → Hands
after_trick h a b c d = without (without (without (without h a) b) c) d

module _ (h : Hands) (leader : Place) (a b c d : Card) (apart : IsApart h) (from : AreFrom h leader a b c d) where
  had_before : (card : Card) (place : Place) → set.contains (hand_of (after_trick h a b c d) place) card ≡ true →
      (set.contains (hand_of (without (without (without h a) b) c) place) card ≡ true)
      × (set.contains (hand_of (without (without h a) b) place) card ≡ true)
      × (set.contains (hand_of (without h a) place) card ≡ true) × (set.contains (hand_of h place) card ≡ true)
  had_before card place in' =
      let third = (without_had (without (without (without h a) b) c) d card place in').0 in
      let second = (without_had (without (without h a) b) c card place third).0 in
      let first = (without_had (without h a) b card place second).0 in
      (third, second, first, (without_had h a card place first).0)

  stays : (card : Card) (place : Place) → set.contains (hand_of h place) card ≡ true → card ≢ a → card ≢ b →
      card ≢ c → card ≢ d → set.contains (hand_of (after_trick h a b c d) place) card ≡ true
  stays card place held not_a not_b not_c not_d =
      has_without (without (without (without h a) b) c) d card place
      (has_without (without (without h a) b) c card place
      (has_without (without h a) b card place (has_without h a card place held not_a) not_b) not_c) not_d

  played : ((card : Card) → set.contains (hand_of (without h a) (left_of leader)) card ≡ true →
      is_of a.suit card ≡ true → is_of a.suit b ≡ true) →
      ((card : Card) → set.contains (hand_of (without (without h a) b) (left_of (left_of leader))) card ≡ true →
      is_of a.suit card ≡ true → is_of a.suit c ≡ true) →
      ((card : Card) → set.contains
      (hand_of (without (without (without h a) b) c) (left_of (left_of (left_of leader)))) card ≡ true →
      is_of a.suit card ≡ true → is_of a.suit d ≡ true) → IsPlayed h (after_trick h a b c d) leader a
  played second_follows third_follows fourth_follows =
      let second = left_of leader in
      let third = left_of second in
      let fourth = left_of third in
      record {
        fewer = λ card place in'. let had = had_before card place in' in
            (had.3, (without_had h a card place had.2).1);
        kept = λ card held not_a. stays card leader held not_a
            (two_cards h card b leader second apart held from.second (turns_1 leader))
            (two_cards h card c leader third apart held from.third (turns_2 leader))
            (two_cards h card d leader fourth apart held from.fourth (turns_3 leader));
        follows = λ place ne. elim (seat leader place) [
          | inl is ↦ absurd (ne is)
          | inr (inl is) ↦
              subst (λ x. HasFollowed (hand_of h x) (hand_of (after_trick h a b c d) x) a) (sym is) (record {
                card = b;
                was = from.second;
                gone = λ in'. (without_had (without h a) b b second (had_before b second in').1).1 refl;
                suit = λ other in' same. second_follows other (had_before other second in').2 same;
              })
          | inr (inr (inl is)) ↦
              subst (λ x. HasFollowed (hand_of h x) (hand_of (after_trick h a b c d) x) a) (sym is) (record {
                card = c;
                was = from.third;
                gone = λ in'. (without_had (without (without h a) b) c c third (had_before c third in').0).1 refl;
                suit = λ other in' same. third_follows other (had_before other third in').1 same;
              })
          | inr (inr (inr is)) ↦
              subst (λ x. HasFollowed (hand_of h x) (hand_of (after_trick h a b c d) x) a) (sym is) (record {
                card = d;
                was = from.fourth;
                gone = λ in'. (without_had (without (without (without h a) b) c) d d fourth in').1 refl;
                suit = λ other in' same. fourth_follows other (had_before other fourth in').0 same;
              })
        ];
      }

  -- the same of a trick that third hand has taken over with a card of the suit led
  taken_over : a.suit ≡ c.suit →
      ((card : Card) → set.contains (hand_of (without h a) (left_of leader)) card ≡ true →
      is_of a.suit card ≡ true → is_of a.suit b ≡ true) →
      ((card : Card) → set.contains
      (hand_of (without (without (without h a) b) c) (left_of (left_of (left_of leader)))) card ≡ true →
      is_of a.suit card ≡ true → is_of a.suit d ≡ true) →
      IsPlayed h (after_trick h a b c d) (left_of (left_of leader)) c
  taken_over suit second_follows fourth_follows =
      let second = left_of leader in
      let third = left_of second in
      let fourth = left_of third in
      record {
        fewer = λ card place in'. let had = had_before card place in' in
            (had.3, (without_had (without (without h a) b) c card place had.0).1);
        kept = λ card held not_c. stays card third held
            (two_cards h card a third leader apart held from.first (flip (turns_2 leader)))
            (two_cards h card b third second apart held from.second (flip (turns_1 second))) not_c
            (two_cards h card d third fourth apart held from.fourth (turns_1 third));
        follows = λ place ne. elim (seat leader place) [
          | inl is ↦
              subst (λ x. HasFollowed (hand_of h x) (hand_of (after_trick h a b c d) x) c) (sym is) (record {
                card = a;
                was = from.first;
                gone = λ in'. (without_had h a a leader (had_before a leader in').2).1 refl;
                suit = λ other in' same. eq-eqb _ _ (ap suit_number (sym suit));
              })
          | inr (inl is) ↦
              subst (λ x. HasFollowed (hand_of h x) (hand_of (after_trick h a b c d) x) c) (sym is) (record {
                card = b;
                was = from.second;
                gone = λ in'. (without_had (without h a) b b second (had_before b second in').1).1 refl;
                suit = λ other in'. subst (λ s. is_of s other ≡ true → is_of s b ≡ true) suit
                    (second_follows other (had_before other second in').2);
              })
          | inr (inr (inl is)) ↦ absurd (ne is)
          | inr (inr (inr is)) ↦
              subst (λ x. HasFollowed (hand_of h x) (hand_of (after_trick h a b c d) x) c) (sym is) (record {
                card = d;
                was = from.fourth;
                gone = λ in'. (without_had (without (without (without h a) b) c) d d fourth in').1 refl;
                suit = λ other in'. subst (λ s. is_of s other ≡ true → is_of s d ≡ true) suit
                    (fourth_follows other (had_before other fourth in').0);
              })
        ];
      }

-- no card is needed of the partner
pub none_in_reach : (p : Position) (place : Place) (own : Cards) → AreInReach p place own set.empty set.empty
none_in_reach p place own =
    let none = λ (card : Card) (in' : set.contains set.empty card ≡ true).
    true≢false (sym in' ∙ set.contains-empty card_cmp card) in
    record {
      runners = record {
        held = λ card in'. absurd (none card in');
        among = λ card in'. in';
        unbeaten = record {
          held = λ card in'. absurd (none card in');
          unbeaten = λ card other player in' ne there. absurd (none card in');
        };
        long = λ card other player in' ne there. inl in';
      };
      apart = λ card other in' there e. none other there;
      entry = λ card in'. absurd (none card in');
      room = λ card in'. absurd (none card in');
    }

-- the leader's runners, and the partner's that are in reach
pub record Run (h : Hands) (strain : Strain) (leader : Place) (w m t u : Cards) : Type 0 where
  pub runners : AreRunners (at h strain leader []) w m
  pub reach : AreInReach (at h strain leader []) (left_of (left_of leader)) w t u

module _ (strain : Strain) where
  -- after a trick that the leader has won with one of them
  runners_left : (h g : Hands) (leader : Place) (w m : Cards) (a : Card) → IsPlayed h g leader a → IsFirst m a →
      AreRunners (at h strain leader []) w m →
      AreRunners (at g strain leader []) (set.remove w a) (set.remove m a)
  runners_left h g leader w m a played first are = record {
    held = λ card in'. let had = removed_had w a card in' in played.kept card (are.held card had.0) had.1;
    among = λ card in'. let had = removed_had m a card in' in has_removed w a card (are.among card had.0) had.1;
    unbeaten = record {
      held = λ card in'. let had = removed_had m a card in' in played.kept card (are.unbeaten.held card had.0) had.1;
      unbeaten = λ card other place in' ne there.
          are.unbeaten.unbeaten card other place (removed_had m a card in').0 ne (played.fewer other place there).0;
    };
    long = λ card other place in' ne there.
        let had = removed_had w a card in' in
        elim (are.long card other place had.0 ne (played.fewer other place there).0) [
          | inl is ↦ inl (has_removed m a card is had.1)
          | inr both ↦ inr (
            both.0,
            counts (hand_of h place) (hand_of g place) m a card.suit
                (λ x held. (played.fewer x place held).0) (played.follows place ne) first both.1,
          )
        ];
  }

  reach_left : (h g : Hands) (leader : Place) (w t u : Cards) (a : Card) → IsPosition (at h strain leader []) →
      IsPosition (at g strain leader []) → IsPlayed h g leader a → set.contains w a ≡ true →
      set.contains (hand_of h leader) a ≡ true →
      ((card : Card) → set.contains t card ≡ true → set.contains (hand_of g (left_of (left_of leader))) card ≡ true) →
      AreInReach (at h strain leader []) (left_of (left_of leader)) w t u →
      AreInReach (at g strain leader []) (left_of (left_of leader)) (set.remove w a) t u
  reach_left h g leader w t u a valid valid' played in' held kept reach =
      let third = left_of (left_of leader) in
      let one : set.len (hand_of h leader) ≤ suc (set.len (hand_of g leader)) =
      omega (
        arith,
        has_less (hand_of h leader) a held,
        within (set.remove (hand_of h leader) a) (hand_of g leader) (λ card there.
            let had = removed_had (hand_of h leader) a card there in played.kept card had.0 had.1),
      ) in
      record {
        runners = record {
          held = kept;
          among = reach.runners.among;
          unbeaten = record {
            held = λ card here. kept card (reach.runners.among card here);
            unbeaten = λ card other place here ne there.
                reach.runners.unbeaten.unbeaten card other place here ne (played.fewer other place there).0;
          };
          long = λ card other place here ne there.
              elim (reach.runners.long card other place here ne (played.fewer other place there).0) [
                | inl is ↦ inl is
                | inr both ↦ inr (
                  both.0,
                  omega (
                    arith,
                    both.1,
                    within (suited (hand_of g place) card.suit)
                        (suited (hand_of h place) card.suit) (λ x held.
                        let had = suit_had (hand_of g place) card.suit x held in
                        has_suit (hand_of h place) card.suit x (played.fewer x place had.0).0 had.1),
                  ),
                )
              ];
        };
        apart = λ card other here there. reach.apart card other (removed_had w a card here).0 there;
        entry = λ card here.
            let has = reach.entry card here in
            record {
              own = has.own;
              entry = has.entry;
              held = played.kept has.own has.held
                  (λ e. reach.apart a has.entry in' (reach.runners.among has.entry has.there) (ap (λ x. x.suit) (sym e) ∙ has.suit));
              there = has.there;
              suit = has.suit;
            };
        room = λ card here. omega (
          arith,
          reach.room card here,
          has_less w a in',
          one,
          valid.equal leader third,
          valid'.equal leader third,
        );
      }

  -- what is so at the beginning of a trick with at most so many cards left
  abbrev Next : ℕ → Type 0
  Next n = (h : Hands) (leader : Place) (w m t u : Cards) → IsPosition (at h strain leader []) →
      cards_left (at h strain leader []) ≤ n → Run h strain leader w m t u →
      TakesAtLeast (side_of leader) (set.len w + set.len t) (at h strain leader [])

  -- the card that is led is beaten by nobody
  first_unbeaten : (h : Hands) (leader : Place) (w m : Cards) (a other : Card) (place : Place) →
      AreRunners (at h strain leader []) w m → set.contains w a ≡ true → IsFirst m a → place ≢ leader →
      set.contains (hand_of h place) other ≡ true → strength_in strain a other < strength_in strain a a
  first_unbeaten h leader w m a other place are in' first ne there =
      elim (are.long a other place in' ne there) [
        | inl is ↦ are.unbeaten.unbeaten a other place is ne there
        | inr both ↦ elim first [
          | inl is ↦ are.unbeaten.unbeaten a other place is ne there
          | inr none ↦ unbeaten strain a other both.0 (λ same.
              let short = has_some (suited (hand_of h place) a.suit) other
              (has_suit (hand_of h place) a.suit other there (eq-eqb _ _ (ap suit_number (sym same)))) in
              let one = some_of (suited m a.suit) (λ empty. omega (arith, empty, short, both.1)) in
              absurd (none one.0 (suit_had m a.suit one.0 one.1).0))
        ]
      ]

  -- a runner is led, and the partner keeps the others
  runner : (n : ℕ) (h : Hands) (leader : Place) (w m t u : Cards) (a : Card) → IsPosition (at h strain leader []) →
      cards_left (at h strain leader []) ≤ suc n → Run h strain leader w m t u → set.contains w a ≡ true →
      IsFirst m a → Next n → TakesAtLeast (side_of leader) (set.len w + set.len t) (at h strain leader [])
  runner n h leader w m t u a valid few run in' first next =
      let side = side_of leader in
      let second = left_of leader in
      let third = left_of second in
      let fourth = left_of third in
      let k = set.len (set.remove w a) + set.len t in
      let beaten = λ (other : Card) (place : Place) (ne : place ≢ leader)
      (there : set.contains (hand_of h place) other ≡ true).
      first_unbeaten h leader w m a other place run.runners in' first ne there in
      let p = at h strain leader [] in
      let may_a = run.runners.held a in' in
      let some = some_left p leader a may_a in
      let four = four_times p valid in
      let h1 = without h a in
      let p1 = at h1 strain leader (a ∷ []) in
      let valid_1 = position_after p a valid may_a in
      let less_1 = one_less_after p a valid may_a in
      let more : set.len t < set.len (hand_of h third) =
      elim (cases_eq (set.len t) 0) [
        | inl none ↦ omega (arith, none, has_some (hand_of h leader) a may_a, valid.equal leader third)
        | inr any ↦ let one = some_of t any in omega (arith, run.reach.room one.0 one.1, has_some w a in')
      ] in
      subst (λ j. TakesAtLeast side j p) (omega (arith, has_less w a in'))
      (one_plays side (suc k) p a valid may_a refl
      (goes_on side (suc k) p a valid may_a (omega arith)
      (all_play side (suc k) p1 valid_1 (omega (arith, some, four, less_1)) (λ b may_b.
      let h2 = without h1 b in
      let p2 = at h2 strain leader (a ∷ b ∷ []) in
      let valid_2 = position_after p1 b valid_1 may_b in
      let less_2 = one_less_after p1 b valid_1 may_b in
      let from_1 = without_had h a b second (held_by p1 b may_b) in
      let still : (card : Card) → set.contains (hand_of h third) card ≡ true →
      set.contains (hand_of h2 third) card ≡ true = λ card held. has_without h1 b card third
      (has_without h a card third held (two_cards h card a third leader valid.apart held may_a (flip (turns_2 leader))))
      (two_cards h card b third second valid.apart held from_1.0 (flip (turns_1 second))) in
      let plays = free (hand_of h2 third) t a b (λ card there. run.reach.apart a card in' there)
      (omega (arith, more, within (hand_of h third) (hand_of h2 third) still)) in
      let c = plays.0 in
      let may_c = plays.1 in
      goes_on side (suc k) p1 b valid_1 may_b (omega arith)
      (one_plays side (suc k) p2 c valid_2 may_c (partners leader)
      (let h3 = without h2 c in
      let p3 = at h3 strain leader (a ∷ b ∷ c ∷ []) in
      let valid_3 = position_after p2 c valid_2 may_c in
      let less_3 = one_less_after p2 c valid_2 may_c in
      goes_on side (suc k) p2 c valid_2 may_c (omega arith)
      (all_play side (suc k) p3 valid_3 (omega (arith, some, four, less_1, less_2, less_3)) (λ d may_d.
      let less_4 = one_less_after p3 d valid_3 may_d in
      let from_2 = without_had h1 b c third (held_by p2 c may_c) in
      let from_3 = without_had h a c third from_2.0 in
      let from_4 = without_had h2 c d fourth (held_by p3 d may_d) in
      let from_5 = without_had h1 b d fourth from_4.0 in
      let from_6 = without_had h a d fourth from_5.0 in
      let from : AreFrom h leader a b c d = record {
        first = may_a;
        second = from_1.0;
        third = from_3.0;
        fourth = from_6.0;
        ba = from_1.1;
        ca = from_3.1;
        cb = from_2.1;
        da = from_6.1;
        db = from_5.1;
        dc = from_4.1;
      } in
      let g = without h3 d in
      let is_played = played h leader a b c d valid.apart from
      (λ card held same. follows_led (hand_of h1 second) a b card [] may_b held same)
      (λ card held same. follows_led (hand_of h2 third) a c card (b ∷ []) may_c held same)
      (λ card held same. follows_led (hand_of h3 fourth) a d card (b ∷ c ∷ []) may_d held same) in
      let kept : (card : Card) → set.contains t card ≡ true → set.contains (hand_of g third) card ≡ true =
      λ card there.
      let held = run.reach.runners.held card there in
      stays h leader a b c d valid.apart from card third held
      (two_cards h card a third leader valid.apart held may_a (flip (turns_2 leader)))
      (two_cards h card b third second valid.apart held from_1.0 (flip (turns_1 second)))
      (λ e. plays.2 (subst (λ x. set.contains t x ≡ true) e there))
      (two_cards h card d third fourth valid.apart held from_6.0 (turns_1 third)) in
      let wins : winner strain leader a b c d ≡ leader =
      first_wins leader _ _ _ _ (record {
        first = beaten b second (flip (turns_1 leader)) from_1.0;
        second = beaten c third (flip (turns_2 leader)) from_3.0;
        third = beaten d fourth (flip (turns_3 leader)) from_6.0;
      }) in
      let valid_4 = subst (λ place. IsPosition (at g strain place [])) wins (position_after p3 d valid_3 may_d) in
      trick_won side k h3 strain leader a b c d valid_3 may_d (ap side_of wins)
      (subst (λ place. TakesAtLeast side k (at g strain place [])) (sym wins)
      (next g leader (set.remove w a) (set.remove m a) t u valid_4
      (omega (arith, few, less_1, less_2, less_3, less_4)) (record {
        runners = runners_left h g leader w m a is_played first run.runners;
        reach = reach_left h g leader w t u a valid valid_4 is_played in' may_a kept run.reach;
      })))))))))))

  -- the partner's master beats all, to whatever card of its suit
  entry_unbeaten : (h : Hands) (leader : Place) (u : Cards) (has : HasEntry (at h strain leader []) u) (other : Card)
      (place : Place) → AreMasters (at h strain (left_of (left_of leader)) []) u → place ≢ left_of (left_of leader) →
      set.contains (hand_of h place) other ≡ true →
      strength_in strain has.own other < strength_in strain has.own has.entry
  entry_unbeaten h leader u has other place are ne there =
      subst (λ suit. strength (trump_of strain) suit other < strength (trump_of strain) suit has.entry) (sym has.suit)
      (are.unbeaten has.entry other place has.there ne there)

  -- the partner gets the lead
  over : (n : ℕ) (h : Hands) (leader : Place) (w m t u : Cards) → IsPosition (at h strain leader []) →
      cards_left (at h strain leader []) ≤ suc n → Run h strain leader w m t u → set.len w ≡ 0 →
      HasEntry (at h strain leader []) u → Next n →
      TakesAtLeast (side_of leader) (set.len w + set.len t) (at h strain leader [])
  over n h leader w m t u valid few run no_more has next =
      let side = side_of leader in
      let second = left_of leader in
      let third = left_of second in
      let fourth = left_of third in
      let a = has.own in
      let c = has.entry in
      let theirs = run.reach.runners in
      let entry_in = theirs.among c has.there in
      let rest = set.remove t c in
      let k = set.len rest + set.len set.empty in
      let p = at h strain leader [] in
      let may_a = has.held in
      let some = some_left p leader a may_a in
      let four = four_times p valid in
      let h1 = without h a in
      let p1 = at h1 strain leader (a ∷ []) in
      let valid_1 = position_after p a valid may_a in
      let less_1 = one_less_after p a valid may_a in
      let held_c = theirs.held c entry_in in
      subst (λ j. TakesAtLeast side j p) (omega (arith, has_less t c entry_in, no_more, set.len-empty card_cmp))
      (one_plays side (suc k) p a valid may_a refl
      (goes_on side (suc k) p a valid may_a (omega arith)
      (all_play side (suc k) p1 valid_1 (omega (arith, some, four, less_1)) (λ b may_b.
      let h2 = without h1 b in
      let p2 = at h2 strain leader (a ∷ b ∷ []) in
      let valid_2 = position_after p1 b valid_1 may_b in
      let less_2 = one_less_after p1 b valid_1 may_b in
      let from_1 = without_had h a b second (held_by p1 b may_b) in
      let may_c = follows_legal (hand_of h2 third) (a ∷ b ∷ []) c
      (has_without h1 b c third
      (has_without h a c third held_c (two_cards h c a third leader valid.apart held_c may_a (flip (turns_2 leader))))
      (two_cards h c b third second valid.apart held_c from_1.0 (flip (turns_1 second))))
      (inl (eq-eqb _ _ (ap suit_number has.suit))) in
      goes_on side (suc k) p1 b valid_1 may_b (omega arith)
      (one_plays side (suc k) p2 c valid_2 may_c (partners leader)
      (let h3 = without h2 c in
      let p3 = at h3 strain leader (a ∷ b ∷ c ∷ []) in
      let valid_3 = position_after p2 c valid_2 may_c in
      let less_3 = one_less_after p2 c valid_2 may_c in
      goes_on side (suc k) p2 c valid_2 may_c (omega arith)
      (all_play side (suc k) p3 valid_3 (omega (arith, some, four, less_1, less_2, less_3)) (λ d may_d.
      let less_4 = one_less_after p3 d valid_3 may_d in
      let from_2 = without_had h1 b c third (held_by p2 c may_c) in
      let from_3 = without_had h a c third from_2.0 in
      let from_4 = without_had h2 c d fourth (held_by p3 d may_d) in
      let from_5 = without_had h1 b d fourth from_4.0 in
      let from_6 = without_had h a d fourth from_5.0 in
      let from : AreFrom h leader a b c d = record {
        first = may_a;
        second = from_1.0;
        third = from_3.0;
        fourth = from_6.0;
        ba = from_1.1;
        ca = from_3.1;
        cb = from_2.1;
        da = from_6.1;
        db = from_5.1;
        dc = from_4.1;
      } in
      let g = without h3 d in
      let is_played = taken_over h leader a b c d valid.apart from has.suit
      (λ card held same. follows_led (hand_of h1 second) a b card [] may_b held same)
      (λ card held same. follows_led (hand_of h3 fourth) a d card (b ∷ c ∷ []) may_d held same) in
      let wins : winner strain leader a b c d ≡ third =
      third_wins leader _ _ _ _ (record {
        first = entry_unbeaten h leader u has a leader theirs.unbeaten (turns_2 leader) may_a;
        second = entry_unbeaten h leader u has b second theirs.unbeaten (turns_1 second) from_1.0;
        third = entry_unbeaten h leader u has d fourth theirs.unbeaten (flip (turns_1 third)) from_6.0;
      }) in
      let valid_4 = subst (λ place. IsPosition (at g strain place [])) wins (position_after p3 d valid_3 may_d) in
      trick_won side k h3 strain leader a b c d valid_3 may_d (ap side_of wins ∙ partners leader)
      (subst (λ place. TakesAtLeast side k (at g strain place [])) (sym wins)
      (subst (λ s. TakesAtLeast s k (at g strain third [])) (partners leader)
      (next g third rest (set.remove u c) set.empty set.empty valid_4
      (omega (arith, few, less_1, less_2, less_3, less_4)) (record {
        runners = runners_left h g third t u c is_played (inl has.there) theirs;
        reach = none_in_reach (at g strain third []) (left_of (left_of third)) rest;
      }))))))))))))

  -- none of either
  nothing : (h : Hands) (leader : Place) (w t : Cards) → IsPosition (at h strain leader []) → set.len w ≡ 0 →
      set.len t ≡ 0 → TakesAtLeast (side_of leader) (set.len w + set.len t) (at h strain leader [])
  nothing h leader w t valid none no_other =
      subst (λ k. TakesAtLeast (side_of leader) k (at h strain leader [])) (omega (arith, none, no_other))
      (takes_none (side_of leader) (at h strain leader []) valid)

  -- as many tricks as cards of both, with at most so many cards left
  pub taken : (n : ℕ) (h : Hands) (leader : Place) (w m t u : Cards) → IsPosition (at h strain leader []) →
      cards_left (at h strain leader []) ≤ n → Run h strain leader w m t u →
      TakesAtLeast (side_of leader) (set.len w + set.len t) (at h strain leader [])
  taken zero h leader w m t u valid few run =
      elim (cases_eq (set.len w) 0) [
        | inr some ↦
            let one = some_of w some in
            absurd (omega (
              arith,
              few,
              some_left (at h strain leader []) leader one.0
                  (run.runners.held one.0 one.1),
            ))
        | inl none ↦ elim (cases_eq (set.len t) 0) [
          | inl no_other ↦ nothing h leader w t valid none no_other
          | inr some ↦
              let one = some_of t some in
              let has = run.reach.entry one.0 one.1 in
              absurd (omega (arith, few, some_left (at h strain leader []) leader has.own has.held))
        ]
      ]
  taken (suc n) h leader w m t u valid few run =
      elim (cases_eq (set.len w) 0) [
        | inr some ↦ let one = some_of w some in elim (cases_eq (set.len m) 0) [
          | inl none ↦ runner n h leader w m t u one.0 valid few run one.1
              (inr (λ card in'. omega (arith, none, has_some m card in'))) (taken n)
          | inr any ↦
              let top = some_of m any in
              runner n h leader w m t u top.0 valid few run (run.runners.among top.0 top.1) (inl top.1) (taken n)
        ]
        | inl none ↦ elim (cases_eq (set.len t) 0) [
          | inl no_other ↦ nothing h leader w t valid none no_other
          | inr some ↦
              let one = some_of t some in
              over n h leader w m t u valid few run none (run.reach.entry one.0 one.1) (taken n)
        ]
      ]
