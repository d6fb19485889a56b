-- The last trick: each player has one card.
use Rattle.std.proofs.Common.{◌≡◌, ◌≢◌, ℕ, ◌+◌, ◌-◌, ◌≤◌, Bool, true, [], zero, suc, length, sym, ap, ◌∙◌, subst, arith}
use Rattle.std.specs.Prelude.{nat_eq}
use Rattle.std.proofs.lemmas.Bool.{le-leb, ne_eqb}
use Rattle.std.specs.FinSet as set
use Rattle.cards.specs.declared.card.Card.{Card}
use Rattle.cards.specs.Cards.{Cards}
use Rattle.cards.specs.Hands.{Hands, hand_of}
use Rattle.cards.specs.Play.{
  IsApart,
  IsPosition,
  Position,
  after,
  cards_left,
  legal,
  point,
  to_play,
  trick_for,
  winner,
  without,
}
use Rattle.cards.proofs.PlayLemmas.{can_play, legal_held, position_after}
use Rattle.table_terms.specs.declared.place.Place.{Place}
use Rattle.table_terms.specs.declared.strain.Strain.{Strain}
use Rattle.table_terms.specs.Place.{left_of, side_of}
use Rattle.double_dummy.proofs.BoundLemmas.{too_many}
use Rattle.double_dummy.proofs.SearchLemmas.{found_forced}
use Rattle.double_dummy_laws.proofs.GuardedTrumpLemmas.{two_cards}
use Rattle.double_dummy_laws.proofs.HandLemmas.{has_without, without_had}
use Rattle.double_dummy_laws.proofs.NeighbourLemmas.{one_less_after}
use Rattle.double_dummy_laws.proofs.TakingLemmas.{at, some_left}
use Rattle.double_dummy_laws.proofs.WinnerLemmas.{turns_1, turns_2, turns_3}
use Rattle.double_dummy_laws.specs.Found.{IsFound}
use Rattle.double_dummy_laws.specs.Known.{IsTrickKnown}
use Rattle.double_dummy_laws.specs.Renaming.{Ownership, knowing}

-- a player has this card and no other
abbrev HasOnly : Hands → Place → Card → Type 0
HasOnly h place card =
    (set.contains (hand_of h place) card ≡ true)
    × ((other : Card) → set.contains (hand_of h place) other ≡ true → card ≡ other)

pub has_only : (h : Hands) (place there : Place) (hand : Cards) (card : Card) → hand ≡ hand_of h place →
    place ≡ there → set.contains hand card ≡ true →
    ((other : Card) → set.contains hand other ≡ true → card ≡ other) → HasOnly h there card
has_only h place there hand card is same held alone =
    let hand_is = is ∙ ap (hand_of h) same in (
      subst (λ cards. set.contains cards card ≡ true) hand_is held,
      λ other in'. alone other (subst (λ cards. set.contains cards other ≡ true) (sym hand_is) in'),
    )

-- such a card is what may be played
may_play : (p : Position) (card : Card) → IsPosition p → HasOnly p.hands (to_play p) card →
    (set.contains (legal p) card ≡ true) × ((other : Card) → set.contains (legal p) other ≡ true → card ≡ other)
may_play p card valid has =
    let only = λ (other : Card) (may : set.contains (legal p) other ≡ true).
    has.1 other (legal_held (hand_of p.hands (to_play p)) p.table other may) in
    let left = some_left p (to_play p) card has.0 in
    let some = can_play p valid (λ none. omega (arith, none, left)) in
    (subst (λ x. set.contains (legal p) x ≡ true) (sym (only some.0 some.1)) some.1, only)

-- another player's card stays
stays : (h : Hands) (gone card : Card) (player place : Place) → IsApart h → HasOnly h player gone →
    HasOnly h place card → player ≢ place → HasOnly (without h gone) place card
stays h gone card player place apart played has ne = (
  has_without h gone card place has.0
      (two_cards h card gone place player apart has.0 played.0 (λ e. ne (sym e))),
  λ x held. has.1 x (without_had h gone x place held).0,
)

-- where no card is left, no trick is taken any more
ended : (p : Position) (target : ℕ) (known : Cards) (answer : Bool) → cards_left p + length p.table ≡ 0 →
    answer ≡ nat_eq target 0 → IsFound p target known answer
ended p zero known answer none is =
    subst (λ b. IsFound p 0 known b) (sym is) (λ _ _ _ _ _ _ _. le-leb 0 _ (omega arith))
ended p (suc target) known answer none is =
    subst (λ b. IsFound p (suc target) known b) (sym (is ∙ ne_eqb (suc target) 0 (λ e. omega (arith, e))))
    (too_many p (suc target) known (omega (arith, none)))

-- a card that completes no trick wins none
none_less : (p : Position) (target : ℕ) (known : Cards) (answer : Bool) → IsFound p target known answer →
    IsFound p (target - 0) known answer
none_less p target known answer found = subst (λ n. IsFound p n known answer) (omega arith) found

by_cards : (h : Hands) (strain : Strain) (leader : Place) (a b c d : Card) (target : ℕ) (known : Cards)
    (answer : Bool) → IsPosition (at h strain leader []) → cards_left (at h strain leader []) ≤ 4 →
    HasOnly h leader a → HasOnly h (left_of leader) b → HasOnly h (left_of (left_of leader)) c →
    HasOnly h (left_of (left_of (left_of leader))) d →
    ((ownership : Ownership) → IsTrickKnown (knowing ownership known) strain a b c d) →
    answer ≡ nat_eq (target - trick_for (side_of (winner strain leader a b c d))) 0 →
    IsFound (at h strain leader []) target known answer
by_cards h strain leader a b c d target known answer valid few has_a has_b has_c has_d is_known is =
    let second = left_of leader in
    let third = left_of second in
    let fourth = left_of third in
    let p = at h strain leader [] in
    let may_a = may_play p a valid has_a in
    let q = after p a in
    let valid_q = position_after p a valid may_a.0 in
    let q_b = stays h a b leader second valid.apart has_a has_b (turns_1 leader) in
    let q_c = stays h a c leader third valid.apart has_a has_c (turns_2 leader) in
    let q_d = stays h a d leader fourth valid.apart has_a has_d (turns_3 leader) in
    let may_b = may_play q b valid_q q_b in
    let r = after q b in
    let valid_r = position_after q b valid_q may_b.0 in
    let r_c = stays q.hands b c second third valid_q.apart q_b q_c (turns_1 second) in
    let r_d = stays q.hands b d second fourth valid_q.apart q_b q_d (turns_2 second) in
    let may_c = may_play r c valid_r r_c in
    let s = after r c in
    let valid_s = position_after r c valid_r may_c.0 in
    let s_d = stays r.hands c d third fourth valid_r.apart r_c r_d (turns_1 third) in
    let may_d = may_play s d valid_s s_d in
    found_forced p target a known known answer may_a.0 may_a.1 (λ _. tt) (λ _ e. e)
    (none_less q target known answer (found_forced q target b known known answer may_b.0 may_b.1 (λ _. tt) (λ _ e. e)
    (none_less r target known answer (found_forced r target c known known answer may_c.0 may_c.1 (λ _. tt) (λ _ e. e)
    (none_less s target known answer (found_forced s target d known known answer may_d.0 may_d.1 is_known (λ _ e. e)
    (ended (after s d) (target - point s d) known answer
    (omega (
      arith,
      few,
      one_less_after p a valid may_a.0,
      one_less_after q b valid_q may_b.0,
      one_less_after r c valid_r may_c.0,
      one_less_after s d valid_s may_d.0,
    )) is)))))))

-- the last trick, by its four cards
pub last_trick_found : (p : Position) (a b c d : Card) (target : ℕ) (known : Cards) (answer : Bool) →
    p.table ≡ [] → IsPosition p → cards_left p ≤ 4 →
    HasOnly p.hands p.leader a → HasOnly p.hands (left_of p.leader) b →
    HasOnly p.hands (left_of (left_of p.leader)) c → HasOnly p.hands (left_of (left_of (left_of p.leader))) d →
    ((ownership : Ownership) → IsTrickKnown (knowing ownership known) p.strain a b c d) →
    answer ≡ nat_eq (target - trick_for (side_of (winner p.strain p.leader a b c d))) 0 →
    IsFound p target known answer
last_trick_found p a b c d target known answer start valid few has_a has_b has_c has_d is_known is =
    subst (λ table. IsFound (at p.hands p.strain p.leader table) target known answer) (sym start)
    (by_cards p.hands p.strain p.leader a b c d target known answer
    (subst (λ table. IsPosition (at p.hands p.strain p.leader table)) start valid) few has_a has_b has_c has_d is_known
    is)
