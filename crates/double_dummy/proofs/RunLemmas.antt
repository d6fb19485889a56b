-- The cards of a player's that are alike.
use Rattle.std.proofs.Common.{◌≡◌, ◌<◌, ◌≤◌, true, refl, sym, ap, ◌∙◌, inl, inr, arith}
use Rattle.std.specs.Prelude.{nat_lt, ◌&&◌}
use Rattle.std.proofs.lemmas.Bool.{and_from, cases_Bool, eq-eqb, not_from_false, lt-ltb, ltb-true, and_parts, true≢false}
use Rattle.cards.specs.declared.card.Card.{Card}
use Rattle.std.specs.Ordering.{eq_by_cmp}
use Rattle.cards.specs.Card.{card_cmp, number_in_pack}
use Rattle.cards.specs.CardBits.{card_cmp_total, tied_is_equal}
use Rattle.cards.specs.Cards.{AreDisjoint, Cards}
use Rattle.table_terms.specs.Suit.{suit_number}
use Rattle.cards.specs.Hands.{hand_of}
use Rattle.std.specs.FinSet as set
use Rattle.cards.specs.Play.{Position, is_of, legal, to_play}
use Rattle.position_patterns.proofs.SetLemmas.{just_inserted}
use Rattle.double_dummy.specs.Search.{HasOthers, IsRunOf}
use Rattle.double_dummy_laws.proofs.HandLemmas.{in_suit, legal_follows}
use Rattle.double_dummy_laws.proofs.WinnerLemmas.{both_of}
use Rattle.double_dummy_laws.proofs.NeighbourLemmas.{no_between}
use Rattle.double_dummy_laws.specs.Neighbours.{IsBetween}

-- legal cards of a card's suit with no card of the others between are like it
pub run_round : (p : Position) (others playable near run : Cards) (card : Card) → HasOthers p others →
    playable ≡ legal p → set.contains (legal p) card ≡ true →
    ((other : Card) → set.contains near other ≡ true → set.contains playable other ≡ true) →
    ((other : Card) → set.contains near other ≡ true → card.suit ≡ other.suit) →
    ((other between : Card) → set.contains near other ≡ true → set.contains others between ≡ true →
    IsBetween card other between → ⊥) →
    run ≡ set.insert near card → IsRunOf p card run
run_round p others playable near run card has_others playable_is may among suits free run_is ownership other owned
    tight_p runs =
    elim (just_inserted near run card other run_is runs) [
      | inl same ↦ (ap (set.contains (legal p)) same ∙ may, inl (sym same))
      | inr is_near ↦
          let may_other = ap (λ s. set.contains s other) (sym playable_is) ∙ among other is_near in
          let mine = (owned.held (to_play p) card (legal_follows (hand_of p.hands (to_play p)) p.table card may).0).1 in (
            may_other,
            inr (no_between ownership p card other owned may may_other (suits other is_near) (λ x live ne between.
                free other x is_near (has_others ownership x owned tight_p live (λ e. ne (e ∙ sym mine))) between)),
          )
    ]

pub none_in : (s : Cards) (card : Card) → s ≡ set.empty → set.contains s card ≡ true → ⊥
none_in s card none held = true≢false (sym held ∙ ap (λ t. set.contains t card) none ∙ set.contains-empty card_cmp card)

-- the one card of a set that has no other
pub only_one : (s t : Cards) (card other : Card) → t ≡ set.remove s card → t ≡ set.empty →
    set.contains s other ≡ true → card ≡ other
only_one s t card other without none held =
    elim (cases_Bool (eq_by_cmp card_cmp other card)) [
      | inl same ↦ sym (tied_is_equal other card same)
      | inr apart ↦ absurd (none_in t other none (ap (λ u. set.contains u other) without
          ∙ set.contains-remove card_cmp_total s card other ∙ and_from _ _ (not_from_false _ apart) held))
    ]

-- the cards from one to another
from_to : (low high : Card) (inner some stretch : Cards) → ((other : Card) → set.contains inner other
    ≡ (nat_lt (number_in_pack low) (number_in_pack other) && nat_lt (number_in_pack other) (number_in_pack high))) →
    some ≡ set.insert inner low → stretch ≡ set.insert some high → number_in_pack low ≤ number_in_pack high →
    (other : Card) → set.contains stretch other ≡ true →
    (number_in_pack low ≤ number_in_pack other) × (number_in_pack other ≤ number_in_pack high)
from_to low high inner some stretch inner_is some_is stretch_is order other inside =
    elim (just_inserted some stretch high other stretch_is inside) [
      | inl last ↦ let e = ap number_in_pack last in (omega arith, omega arith)
      | inr before ↦ elim (just_inserted inner some low other some_is before) [
        | inl first ↦ let e = ap number_in_pack first in (omega arith, omega arith)
        | inr between ↦
            let parts = and_parts _ _ (sym (inner_is other) ∙ between) in
            let above : number_in_pack low < number_in_pack other = ltb-true _ _ parts.0 in
            let below : number_in_pack other < number_in_pack high = ltb-true _ _ parts.1 in
            (omega arith, omega arith)
      ]
    ]

-- where no parting card is between the first and the last card of a stretch, none is between two of its cards
pub none_parts : (low high card : Card) (parting inner some stretch : Cards) → ((other : Card) →
    set.contains inner other
    ≡ (nat_lt (number_in_pack low) (number_in_pack other) && nat_lt (number_in_pack other) (number_in_pack high))) →
    some ≡ set.insert inner low → stretch ≡ set.insert some high → AreDisjoint inner parting →
    number_in_pack low ≤ number_in_pack card → number_in_pack card ≤ number_in_pack high →
    (other between : Card) → card.suit ≡ other.suit → set.contains stretch other ≡ true →
    set.contains parting between ≡ true → IsBetween card other between → ⊥
none_parts low high card parting inner some stretch inner_is some_is stretch_is apart from to other between suits
    inside parts is =
    let ends = from_to low high inner some stretch inner_is some_is stretch_is (omega arith) other inside in
    let above = ends.0 in
    let below = ends.1 in
    let one = ap suit_number is.suit in
    let two = ap suit_number suits in
    elim is.ranks [
      | inl (up, down) ↦ crossed (omega arith) (omega arith)
      | inr (up, down) ↦ crossed (omega arith) (omega arith)
    ]
  where
    crossed : number_in_pack low < number_in_pack between → number_in_pack between < number_in_pack high → ⊥
    crossed over under = true≢false (sym parts ∙ apart between (inner_is between
        ∙ and_from _ _ (lt-ltb (number_in_pack low) (number_in_pack between) over)
        (lt-ltb (number_in_pack between) (number_in_pack high) under)))

-- a card of a suit that is in a stretch of the pack
pub of_stretch : (cards suited stretch both : Cards) (card other : Card) →
    suited ≡ set.retain cards (is_of card.suit) →
    ((x : Card) → set.contains both x ≡ (set.contains suited x && set.contains stretch x)) →
    set.contains both other ≡ true →
    (set.contains cards other ≡ true) × (card.suit ≡ other.suit) × (set.contains stretch other ≡ true)
of_stretch cards suited stretch both card other suited_is both_is held =
    let parts = and_parts _ _ (sym (both_is other) ∙ held) in
    let of_suit = and_parts _ _ (sym (in_suit cards card.suit other)
    ∙ ap (λ s. set.contains s other) (sym suited_is) ∙ parts.0) in
    (of_suit.0, both_of card.suit card other (eq-eqb _ _ refl) of_suit.1, parts.1)
