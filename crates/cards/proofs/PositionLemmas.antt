-- A position, by the tests of its parts.
use Rattle.std.proofs.Common.{
  ◌≡◌,
  ◌≢◌,
  ◌+◌,
  ◌≤◌,
  true,
  false,
  List,
  [],
  ◌∷◌,
  length,
  refl,
  sym,
  ap,
  ◌∙◌,
  arith,
  inl,
  inr,
  subst,
}
use Rattle.std.specs.Prelude.{◌||◌}
use Rattle.std.specs.FinSet as set
use Rattle.std.specs.List.{list_any}
use Rattle.std.specs.Ordering.{eq_by_cmp}
use Rattle.std.proofs.lemmas.Bool.{
  cases_Bool,
  cases_eq,
  cond-true,
  cond-false,
  or_cases,
  or_left,
  or_right,
  false_from_ne_true,
  true≢false,
}
use Rattle.cards.specs.declared.card.Card.{Card}
use Rattle.table_terms.specs.declared.place.Place.{Place}
use Rattle.table_terms.specs.declared.place.Place.TheVariants.{North, East, South, West}
use Rattle.cards.specs.declared.trick.Trick.{Trick}
use Rattle.cards.specs.declared.trick.Trick.TheVariants.{Empty, One, Two, Three}
use Rattle.cards.specs.Card.{card_cmp}
use Rattle.cards.specs.CardBits.{card_cmp_total, tied_is_equal}
use Rattle.cards.specs.Cards.{Cards, AreDisjoint}
use Rattle.cards.specs.Hands.{Hands, hand_of}
use Rattle.cards.specs.FourHands.{NoTwoShare}
use Rattle.table_terms.specs.Place.{place_number}
use Rattle.cards.specs.Play.{Position, IsApart, IsOut, IsUnderWay, played_by, count_of, IsPosition}
use Rattle.cards.specs.Trick.{cards_in}
use Rattle.cards.proofs.HandsLemmas.{apart_of}
use Rattle.cards.proofs.PlayLemmas.{same_place, tied}

-- no card is in two hands, where no two of the four hands share one
pub apart_from_pairs : (hands : Hands) → NoTwoShare hands → IsApart hands
apart_from_pairs hands pairs place other card held also =
    elim (cases_eq (place_number place) (place_number other)) [
      | inl same ↦ same_place place other same
      | inr ne ↦
          absurd (true≢false (sym also ∙ apart_of hands pairs place other (λ e. ne (ap place_number e)) card held))
    ]

pub pairs_of_apart : (hands : Hands) → IsApart hands → NoTwoShare hands
pairs_of_apart hands apart = record {
  north_east = two North East (omega arith);
  north_south = two North South (omega arith);
  north_west = two North West (omega arith);
  east_south = two East South (omega arith);
  east_west = two East West (omega arith);
  south_west = two South West (omega arith);
}
  where
    two : (place other : Place) → place_number place ≢ place_number other →
        AreDisjoint (hand_of hands place) (hand_of hands other)
    two place other ne card held =
        false_from_ne_true _ (λ also. ne (ap place_number (apart place other card held also)))

-- the cards of all four hands
abbrev all_of : Hands → Cards
all_of hands = set.union (set.union hands.north hands.east) (set.union hands.south hands.west)

in_left : (s t : Cards) (card : Card) → set.contains s card ≡ true → set.contains (set.union s t) card ≡ true
in_left s t card held = set.contains-union card_cmp_total s t card ∙ or_left _ _ held

in_right : (s t : Cards) (card : Card) → set.contains t card ≡ true → set.contains (set.union s t) card ≡ true
in_right s t card held = set.contains-union card_cmp_total s t card ∙ or_right _ _ held

held_by : (hands : Hands) (place : Place) (card : Card) → set.contains (hand_of hands place) card ≡ true →
    set.contains (all_of hands) card ≡ true
held_by hands North card held = in_left _ _ card (in_left _ _ card held)
held_by hands East card held = in_left _ _ card (in_right _ _ card held)
held_by hands South card held = in_right _ _ card (in_left _ _ card held)
held_by hands West card held = in_right _ _ card (in_right _ _ card held)

out_of_all : (hands : Hands) (card : Card) → set.contains (all_of hands) card ≡ false → IsOut hands card
out_of_all hands card none place =
    false_from_ne_true _ (λ held. true≢false (sym (held_by hands place card held) ∙ none))

in_neither : (s t : Cards) (card : Card) → set.contains s card ≡ false → set.contains t card ≡ false →
    set.contains (set.union s t) card ≡ false
in_neither s t card not_s not_t = set.contains-union card_cmp_total s t card ∙ (λ i. not_s i || not_t i)

all_without : (hands : Hands) (card : Card) → IsOut hands card → set.contains (all_of hands) card ≡ false
all_without hands card out =
    in_neither _ _ card (in_neither _ _ card (out North) (out East)) (in_neither _ _ card (out South) (out West))

-- a card that isn't in a list
abbrev IsAbsent : Card → List Card → Type 0
IsAbsent card cards = list_any (eq_by_cmp card_cmp card) cards ≡ false

absent_more : (card other : Card) (cards : List Card) → card ≢ other → IsAbsent card cards →
    IsAbsent card (other ∷ cards)
absent_more card other cards ne absent i =
    false_from_ne_true (eq_by_cmp card_cmp card other) (λ same. ne (tied_is_equal card other same)) i || absent i

absent_first : (card other : Card) (cards : List Card) → IsAbsent card (other ∷ cards) → card ≢ other
absent_first card other cards absent e =
    true≢false (sym (or_left _ (list_any (eq_by_cmp card_cmp card) cards) (tied card other e)) ∙ absent)

absent_rest : (card other : Card) (cards : List Card) → IsAbsent card (other ∷ cards) → IsAbsent card cards
absent_rest card other cards absent =
    false_from_ne_true _ (λ in_rest. true≢false (sym (or_right (eq_by_cmp card_cmp card other) _ in_rest) ∙ absent))

-- the set of a list's cards
abbrev set_of : List Card → Cards
set_of cards = set.from_list cards

-- it has one card more, where the first stands once
len_more : (card : Card) (cards : List Card) → IsAbsent card cards →
    set.len (set_of (card ∷ cards)) ≡ set.len (set_of cards) + 1
len_more card cards absent =
    set.len-insert card_cmp_total (set_of cards) card ∙ cond-false _ _ _ (set.contains-from_list card_cmp_total cards
    card ∙ absent)

len_same : (card : Card) (cards : List Card) → list_any (eq_by_cmp card_cmp card) cards ≡ true →
    set.len (set_of (card ∷ cards)) ≡ set.len (set_of cards)
len_same card cards again =
    set.len-insert card_cmp_total (set_of cards) card ∙ cond-true _ _ _ (set.contains-from_list card_cmp_total cards
    card ∙ again)

len_within : (cards : List Card) → set.len (set_of cards) ≤ length cards
len_within [] = omega (arith, set.len-empty card_cmp)
len_within (card ∷ cards) =
    elim (cases_Bool (list_any (eq_by_cmp card_cmp card) cards)) [
      | inl again ↦ omega (arith, len_same card cards again, len_within cards)
      | inr absent ↦ omega (arith, len_more card cards absent, len_within cards)
    ]

-- no card stands twice in a list
IsOnce : List Card → Type 0
IsOnce [] = Unit {0}
IsOnce (card ∷ cards) = IsAbsent card cards × IsOnce cards

-- so it is where the set has as many cards as the list
once_from_len : (cards : List Card) → set.len (set_of cards) ≡ length cards → IsOnce cards
unfolding IsOnce
once_from_len [] e = tt
once_from_len (card ∷ cards) e =
    elim (cases_Bool (list_any (eq_by_cmp card_cmp card) cards)) [
      | inl again ↦ absurd (omega (arith, e, len_same card cards again, len_within cards))
      | inr absent ↦ (absent, once_from_len cards (omega (arith, e, len_more card cards absent)))
    ]

len_of_once : (cards : List Card) → IsOnce cards → set.len (set_of cards) ≡ length cards
unfolding IsOnce
len_of_once [] once = set.len-empty card_cmp
len_of_once (card ∷ cards) (absent, once) = omega (arith, len_more card cards absent, len_of_once cards once)

-- the cards of a list are in no hand
AreOut : Hands → List Card → Type 0
AreOut hands [] = Unit {0}
AreOut hands (card ∷ cards) = IsOut hands card × AreOut hands cards

out_from_disjoint : (hands : Hands) (cards : List Card) → AreDisjoint (set_of cards) (all_of hands) → AreOut hands cards
unfolding AreOut
out_from_disjoint hands [] apart = tt
out_from_disjoint hands (card ∷ cards) apart = (
  out_of_all hands card (apart card (set.contains-from_list card_cmp_total (card ∷ cards) card ∙ or_left _ _
      (tied card card refl))),
  out_from_disjoint hands cards (λ other among. apart other (
      set.contains-from_list card_cmp_total (card ∷ cards) other ∙ or_right _ _
      (sym (set.contains-from_list card_cmp_total cards other) ∙ among))),
)

disjoint_of_out : (hands : Hands) (cards : List Card) → AreOut hands cards → AreDisjoint (set_of cards) (all_of hands)
unfolding AreOut
disjoint_of_out hands [] out other among = absurd (true≢false (sym among ∙ set.contains-empty card_cmp other))
disjoint_of_out hands (card ∷ cards) (out, others) other among =
    elim (or_cases _ _ (sym (set.contains-from_list card_cmp_total (card ∷ cards) other) ∙ among)) [
      | inl first ↦ ap (set.contains (all_of hands)) (tied_is_equal other card first) ∙ all_without hands card out
      | inr later ↦ disjoint_of_out hands cards others other (set.contains-from_list card_cmp_total cards other ∙ later)
    ]

-- what the test of a trick under way finds
abbrev pub IsElsewhere : Cards → List Card → Type 0
IsElsewhere held cards = (set.len (set_of cards) ≡ length cards) × AreDisjoint (set_of cards) held

under_way_by_cases : (hands : Hands) (trick : Trick) → IsOnce (cards_in trick) → AreOut hands (cards_in trick) →
    IsUnderWay hands (cards_in trick)
unfolding IsOnce AreOut
under_way_by_cases hands Empty once out = tt
under_way_by_cases hands (One a) once out = out.0
under_way_by_cases hands (Two a b) once out = (out.0, (out.1.0, absent_first a b [] once.0))
under_way_by_cases hands (Three a b c) once out = (
  (out.0, (out.1.0, out.1.1.0)),
  (
    absent_first a b (c ∷ []) once.0,
    (
      absent_first a c [] (absent_rest a b (c ∷ []) once.0),
      absent_first b c [] once.1.0,
    ),
  ),
)

pub under_way_from_tests : (hands : Hands) (trick : Trick) (held : Cards) → all_of hands ≡ held →
    IsElsewhere held (cards_in trick) → IsUnderWay hands (cards_in trick)
under_way_from_tests hands trick held all tests =
    under_way_by_cases hands trick (once_from_len _ tests.0)
    (out_from_disjoint hands _ (subst (AreDisjoint (set_of (cards_in trick))) (sym all) tests.1))

once_by_cases : (hands : Hands) (trick : Trick) → IsUnderWay hands (cards_in trick) →
    IsOnce (cards_in trick) × AreOut hands (cards_in trick)
unfolding IsOnce AreOut
once_by_cases hands Empty trick = (tt, tt)
once_by_cases hands (One a) out = ((refl, tt), (out, tt))
once_by_cases hands (Two a b) (out_a, (out_b, ab)) = ((absent_more a b [] ab refl, (refl, tt)), (out_a, (out_b, tt)))
once_by_cases hands (Three a b c) ((out_a, (out_b, out_c)), (ab, (ac, bc))) = (
  (absent_more a b (c ∷ []) ab (absent_more a c [] ac refl), (absent_more b c [] bc refl, (refl, tt))),
  (out_a, (out_b, (out_c, tt))),
)

pub tests_of_under_way : (hands : Hands) (trick : Trick) (table : List Card) (held : Cards) → cards_in trick ≡ table →
    all_of hands ≡ held →
    IsUnderWay hands table → IsElsewhere held (cards_in trick)
tests_of_under_way hands trick table held is all way =
    let both = once_by_cases hands trick (subst (IsUnderWay hands) (sym is) way) in
    (len_of_once _ both.0, subst (AreDisjoint (set_of (cards_in trick))) all (disjoint_of_out hands _ both.1))

-- each other player has as many cards as North
abbrev pub AreEqual : Hands → Place → List Card → Type 0
AreEqual hands leader table =
    (set.len hands.east + played_by leader table East ≡ set.len hands.north + played_by leader table North)
    × (set.len hands.south + played_by leader table South ≡ set.len hands.north + played_by leader table North)
    × (set.len hands.west + played_by leader table West ≡ set.len hands.north + played_by leader table North)

pub tests_of_equal : (p : Position) (table : List Card) → table ≡ p.table → IsPosition p →
    AreEqual p.hands p.leader table
tests_of_equal p table is valid =
    subst (AreEqual p.hands p.leader) (sym is) (valid.equal East North, valid.equal South North, valid.equal West North)

pub equal_from_tests : (p : Position) → AreEqual p.hands p.leader p.table → (place other : Place) →
    count_of p place ≡ count_of p other
equal_from_tests p same place other = to_north place ∙ sym (to_north other)
  where
    to_north : (place : Place) → count_of p place ≡ count_of p North
    to_north North = refl
    to_north East = same.0
    to_north South = same.1
    to_north West = same.2
