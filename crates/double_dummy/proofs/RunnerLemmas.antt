-- Runners and masters in reach: what the cards that are counted have to be.
use Rattle.std.proofs.Common.{◌≡◌, ◌≢◌, ℕ, ◌+◌, ◌-◌, ◌≤◌, Bool, true, false, [], refl, sym, ap, ◌∙◌, subst, inl, inr, arith}
use Rattle.std.proofs.lemmas.Bool.{cases_eq, eq-eqb, eqb-true}
use Rattle.std.specs.FinSet as set
use Rattle.cards.specs.declared.card.Card.{Card}
use Rattle.cards.specs.Cards.{Cards}
use Rattle.cards.specs.Hands.{hand_of}
use Rattle.table_terms.specs.declared.suit.Suit.{Suit}
use Rattle.table_terms.specs.declared.place.Place.{Place}
use Rattle.table_terms.specs.declared.side.Side.{Side}
use Rattle.table_terms.specs.Place.{partner_of, side_of}
use Rattle.table_terms.specs.Strain.{trump_of}
use Rattle.cards.specs.Play.{IsPosition, Position, is_of, is_trump}
use Rattle.double_dummy_laws.proofs.RunnerLemmas.{none_in_reach, suit_had}
use Rattle.double_dummy_laws.proofs.SureTrickLemmas.{runners_found}
use Rattle.double_dummy_laws.proofs.TakingLemmas.{some_of}
use Rattle.double_dummy_laws.proofs.WinnerLemmas.{both_of, same_suit, unbeaten}
use Rattle.double_dummy_laws.specs.Found.{IsFound, wanted_answer}
use Rattle.double_dummy_laws.specs.SureTricks.{AreEnough, AreMasters, AreRunners, led_by}
use Rattle.position_patterns.proofs.SetLemmas.{in_first, in_second, inserted, just_inserted}
use Rattle.double_dummy.proofs.RunLemmas.{none_in}
use Rattle.double_dummy.proofs.SureLemmas.{AreAbove, AreAlone, AreAmong, either, of_suit}
use Rattle.double_dummy.specs.Search.{AreLong, AreReached, AreSure}

-- these have all cards of the players but one
abbrev pub HaveOthers : Position → Place → Cards → Type 0
HaveOthers p one others = (place : Place) (card : Card) → place ≢ one →
    set.contains (hand_of p.hands place) card ≡ true → set.contains others card ≡ true

-- no trump is among these
abbrev pub ArePlain : Position → Cards → Type 0
ArePlain p cards = (card : Card) → set.contains cards card ≡ true → is_trump (trump_of p.strain) card ≡ false

-- a player's cards that are higher than all others of their suits
pub masters_are : (p : Position) (mine others named : Cards) → mine ≡ hand_of p.hands p.leader →
    HaveOthers p p.leader others → ArePlain p others → AreAmong named mine → AreAbove named others →
    AreMasters p named
masters_are p mine others named mine_is others_has plain named_in named_above = record {
  held = λ card held. ap (λ s. set.contains s card) (sym mine_is) ∙ named_in card held;
  unbeaten = λ card other place held ne there.
      let other_in = others_has place other ne there in
      unbeaten p.strain card other (plain other other_in) (λ same. named_above card other held other_in same);
}

-- cards of suits that nobody else has
pub long_alone : (p : Position) (leader : Place) (others alone named : Cards) → HaveOthers p leader others →
    AreAlone alone others → AreLong p leader alone named
long_alone p leader others alone named others_has is_alone card place held ne =
    elim (cases_eq (set.len (set.retain (hand_of p.hands place) (is_of card.suit))) 0) [
      | inl none ↦ omega (arith, none)
      | inr some ↦
          let one = some_of (set.retain (hand_of p.hands place) (is_of card.suit)) some in
          let had = suit_had (hand_of p.hands place) card.suit one.0 one.1 in
          absurd (is_alone card one.0 held (others_has place one.0 ne had.0)
          (both_of card.suit one.0 card had.1 (eq-eqb _ _ refl)))
    ]

-- a suit of which no other has more than there are masters of it
pub long_in : (p : Position) (leader : Place) (hand held named of_named : Cards) (suit : Suit) (longest : ℕ) →
    held ≡ set.retain hand (is_of suit) → of_named ≡ set.retain named (is_of suit) →
    ((place : Place) → place ≢ leader → set.len (set.retain (hand_of p.hands place) (is_of suit)) ≤ longest) →
    longest ≤ set.len of_named → AreLong p leader held named
long_in p leader hand held named of_named suit longest held_is of_named_is most many card place has ne =
    subst (λ s. set.len (set.retain (hand_of p.hands place) (is_of s)) ≤ set.len (set.retain named (is_of s)))
    (same_suit suit card.suit (eqb-true _ _ (of_suit hand held suit card held_is has).1))
    (omega (arith, most place ne, many, ap set.len of_named_is))

pub long_both : (p : Position) (leader : Place) (s t u named : Cards) → u ≡ set.union s t →
    AreLong p leader s named → AreLong p leader t named → AreLong p leader u named
long_both p leader s t u named is first second card place held ne =
    elim (either s t u card is held) [ inl h ↦ first card place h ne | inr h ↦ second card place h ne ]

-- long cards and the masters before them
pub runners_are : (p : Position) (leader : Place) (long named taken : Cards) → leader ≡ p.leader →
    AreMasters p named →
    ((place : Place) (card : Card) → place ≢ leader → set.contains (hand_of p.hands place) card ≡ true →
    is_trump (trump_of p.strain) card ≡ false) → AreAmong long (hand_of p.hands leader) →
    AreLong p leader long named → taken ≡ set.union long named → AreRunners p taken named
runners_are p leader long named taken leader_is masters plain long_in is_long taken_is =
    let other = λ (place : Place) (ne : place ≢ p.leader) (e : place ≡ leader). ne (e ∙ leader_is) in
    record {
      held = λ card held. elim (either long named taken card taken_is held) [
        | inl h ↦ ap (λ place. set.contains (hand_of p.hands place) card) (sym leader_is) ∙ long_in card h
        | inr h ↦ masters.held card h
      ];
      among = λ card held. in_second long named taken taken_is card held;
      unbeaten = masters;
      long = λ card theirs place held ne there. elim (either long named taken card taken_is held) [
        | inl h ↦ inr (plain place theirs (other place ne) there, is_long card place h (other place ne))
        | inr h ↦ inl h
      ];
    }

-- where they are enough
pub sure_alone : (p : Position) (taken named : Cards) (wanted : ℕ) → IsPosition p → AreRunners p taken named →
    wanted ≤ set.len taken → AreSure p wanted named
sure_alone p taken named wanted valid are many = record {
  valid = valid;
  cards = taken;
  masters = named;
  runners = are;
  are_known = λ card other place in' ne there same. in';
  partners = record {
    cards = set.empty;
    masters = set.empty;
    reach = none_in_reach p (partner_of p.leader) taken;
    are_known = λ card other place in' ne there same. absurd (none_in set.empty card refl in');
    many = omega (arith, many);
  };
}

-- and where the partner's are needed too
pub sure_with : (p : Position) (taken named known all : Cards) (wanted missing : ℕ) → IsPosition p →
    AreRunners p taken named → AreReached p taken missing known → missing ≡ wanted - set.len taken →
    all ≡ set.union named known → AreSure p wanted all
sure_with p taken named known all wanted missing valid are reached missing_is all_is = record {
  valid = valid;
  cards = taken;
  masters = named;
  runners = are;
  are_known = λ card other place in' ne there same. in_first named known all all_is card in';
  partners = record {
    cards = reached.cards;
    masters = reached.masters;
    reach = reached.reach;
    are_known = λ card other place in' ne there same.
        in_second named known all all_is card (reached.are_known card other place in' ne there same);
    many = omega (arith, reached.many, missing_is);
  };
}

-- the partner's masters with the one that is led to, and long cards behind them
pub are_reached : (p : Position) (leader partner : Place) (mine theirs rest high masters few named long cards own : Cards)
    (entry : Card) (missing : ℕ) → leader ≡ p.leader → partner ≡ partner_of leader →
    mine ≡ hand_of p.hands leader → theirs ≡ hand_of p.hands partner → HaveOthers p partner rest →
    ArePlain p rest → AreAmong high theirs → AreAbove high rest → AreAmong masters high → AreAlone masters own →
    set.contains masters entry ≡ true → (x : Card) × ((set.contains mine x ≡ true) × (x.suit ≡ entry.suit)) →
    AreAmong few masters → named ≡ set.insert few entry → AreAmong long theirs → AreLong p partner long named →
    AreAlone long own → cards ≡ set.union long named → missing ≤ set.len cards →
    set.len own + set.len cards ≤ set.len theirs → AreReached p own missing named
are_reached p leader partner mine theirs rest high masters few named long cards own entry missing leader_is partner_is
    mine_is theirs_is rest_has plain high_in high_above masters_in masters_own has_entry (x, (x_held, x_suit)) few_in
    named_is long_in is_long long_own cards_is many room =
    let place_is : partner ≡ partner_of p.leader = partner_is ∙ ap partner_of leader_is in
    let hand_is : theirs ≡ hand_of p.hands (partner_of p.leader) = theirs_is ∙ ap (hand_of p.hands) place_is in
    let others = λ (place : Place) (card : Card) (ne : place ≢ partner_of p.leader)
    (there : set.contains (hand_of p.hands place) card ≡ true).
    rest_has place card (λ e. ne (e ∙ place_is)) there in
    let named_in = λ (card : Card) (held : set.contains named card ≡ true).
    elim (just_inserted few named entry card named_is held) as (λ _. set.contains masters card ≡ true) [
      | inl is ↦ subst (λ c. set.contains masters c ≡ true) (sym is) has_entry
      | inr h ↦ few_in card h
    ] in
    record {
      cards = cards;
      masters = named;
      reach = record {
        runners = runners_are (led_by (partner_of p.leader) p) partner long named cards place_is
            (masters_are (led_by (partner_of p.leader) p) theirs rest named hand_is others plain
            (λ card held. high_in card (masters_in card (named_in card held)))
            (λ card other held. high_above card other (masters_in card (named_in card held))))
            (λ place card ne there. plain card (rest_has place card ne there))
            (λ card held. ap (λ s. set.contains s card) (sym theirs_is) ∙ long_in card held) is_long cards_is;
        apart = λ card other in_own held e. elim (either long named cards other cards_is held) [
          | inl h ↦ long_own other card h in_own e
          | inr h ↦ masters_own other card (named_in other h) in_own e
        ];
        entry = λ card held. record {
          own = x;
          entry = entry;
          held = ap (λ s. set.contains s x) (sym (mine_is ∙ ap (hand_of p.hands) leader_is)) ∙ x_held;
          there = inserted few named entry named_is;
          suit = x_suit;
        };
        room = λ card held. omega (arith, room, ap set.len hand_is);
      };
      are_known = λ card other place held ne there same. held;
      many = many;
    }

-- the answer of the leader's side
pub runners_answer : (p : Position) (leader : Place) (side : Side) (named known : Cards) (target wanted : ℕ) (holds : Bool) →
    p.table ≡ [] → leader ≡ p.leader → side ≡ side_of leader → AreSure p wanted named →
    ((tricks : ℕ) → wanted ≤ tricks → AreEnough side tricks p target) → holds ≡ wanted_answer side →
    known ≡ named → IsFound p target known holds
runners_answer p leader side named known target wanted holds none leader_is side_is sure enough holds_is known_is =
    let of_leader : side ≡ side_of p.leader = side_is ∙ ap side_of leader_is in
    let partners = sure.partners in
    subst (λ k. IsFound p target k holds) (sym known_is)
    (subst (λ b. IsFound p target named b) (sym (holds_is ∙ ap wanted_answer of_leader))
    (runners_found p sure.cards sure.masters partners.cards partners.masters named target sure.valid none sure.runners partners.reach
    sure.are_known partners.are_known
    (subst (λ s. AreEnough s (set.len sure.cards + set.len partners.cards) p target) of_leader
    (enough (set.len sure.cards + set.len partners.cards) (omega (arith, partners.many))))))
