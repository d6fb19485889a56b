-- Legal cards, and what a legal card does to a position.
use Rattle.std.proofs.Common.{
  ◌≡◌,
  ◌≢◌,
  ℕ,
  ◌+◌,
  ◌-◌,
  ◌*◌,
  ◌<◌,
  true,
  false,
  cond,
  List,
  [],
  ◌∷◌,
  length,
  refl,
  sym,
  ap,
  ◌∙◌,
  arith,
  inl,
  inr,
}
use Rattle.std.specs.Prelude.{nat_eq, not, ◌&&◌}
use Rattle.std.specs.FinSet as set
use Rattle.std.specs.List.{list_any}
use Rattle.std.specs.Ordering.{eq_by_cmp, is_eq}
use Rattle.std.specs.Cmp.{tied_itself}
use Rattle.std.proofs.lemmas.Bool.{
  cases_eq,
  cond-true,
  cond-false,
  eq-eqb,
  ne_eqb,
  and_left,
  and_parts,
  and_right,
  or_left,
  false_from_ne_true,
  not-true,
  true≢false,
}
use Rattle.cards.specs.declared.card.Card.{Card}
use Rattle.table_terms.specs.declared.suit.Suit.{Suit}
use Rattle.table_terms.specs.declared.place.Place.{Place}
use Rattle.table_terms.specs.declared.place.Place.TheVariants.{North, East, South, West}
use Rattle.table_terms.specs.declared.strain.Strain.{Strain}
use Rattle.cards.specs.Card.{card_cmp}
use Rattle.cards.specs.CardBits.{card_cmp_total}
use Rattle.cards.proofs.CardBitsLemmas.{same_cards, card_cmp-IsAntisymmetric}
use Rattle.cards.specs.Cards.{Cards}
use Rattle.cards.specs.Hands.{Hands, hand_of}
use Rattle.table_terms.specs.Place.{left_of, place_number}
use Rattle.cards.specs.Play.{
  Position,
  to_play,
  turn,
  is_of,
  following,
  legal_of,
  legal,
  without,
  table_after,
  leader_after,
  after,
  cards_left,
  IsApart,
  IsOut,
  IsUnderWay,
  one_for,
  played_by,
  count_of,
  IsPosition,
}

-- a hand that holds none of the suit led may play any card
pub following-none : (hand held : Cards) → held ≡ set.empty → following hand held ≡ hand
following-none hand held none = cond-true _ _ _ (eq-eqb _ _ (ap set.len none ∙ set.len-empty card_cmp))

-- a hand that holds some of it plays one of them
pub following-some : (hand held : Cards) → (held ≡ set.empty → ⊥) → following hand held ≡ held
following-some hand held some = cond-false _ _ _ (ne_eqb _ _ (λ none. some (set.empty_of_len held none)))

pub tied : (a b : Card) → a ≡ b → eq_by_cmp card_cmp a b ≡ true
tied a b e = ap (eq_by_cmp card_cmp a) (sym e) ∙ ap is_eq (tied_itself card_cmp_total a)

-- the cards that a hand holds of a suit
pub in_suit : (hand : Cards) (suit : Suit) (card : Card) →
    set.contains (set.retain hand (is_of suit)) card ≡ (set.contains hand card && is_of suit card)
in_suit hand suit card =
    set.contains-retain hand (is_of suit) card (λ x e. ap (is_of suit) (sym (card_cmp-IsAntisymmetric card x e)))

-- a legal card is held by the player in turn
pub legal_held : (hand : Cards) (table : List Card) (card : Card) → set.contains (legal_of hand table) card ≡ true →
    set.contains hand card ≡ true
legal_held hand [] card may = may
legal_held hand (led ∷ table) card may =
    elim (nat_eq (set.len (set.retain hand (is_of led.suit))) 0) as (λ b.
    set.contains (cond b hand (set.retain hand (is_of led.suit))) card ≡ true → set.contains hand card ≡ true) [
      | true ↦ λ there. there
      | false ↦ λ there. (and_parts _ _ (sym (in_suit hand led.suit card) ∙ there)).0
    ] may

-- a player's hand without a card
pub hand_without : (hands : Hands) (card : Card) (place : Place) →
    hand_of (without hands card) place ≡ set.remove (hand_of hands place) card
hand_without hands card North = refl
hand_without hands card East = refl
hand_without hands card South = refl
hand_without hands card West = refl

pub left_without : (hands : Hands) (gone card : Card) (place : Place) →
    set.contains (hand_of (without hands gone) place) card ≡ (not (eq_by_cmp card_cmp card gone) && set.contains
    (hand_of hands place) card)
left_without hands gone card place =
    ap (λ hand. set.contains hand card) (hand_without hands gone place) ∙ set.contains-remove card_cmp_total
    (hand_of hands place) gone card

-- what is left was there before
pub without_had : (hands : Hands) (gone card : Card) (place : Place) →
    set.contains (hand_of (without hands gone) place) card ≡ true →
    (set.contains (hand_of hands place) card ≡ true) × (card ≢ gone)
without_had hands gone card place held =
    let parts = and_parts _ _ (sym (left_without hands gone card place) ∙ held) in
    (parts.1, λ e. true≢false (sym (tied card gone e) ∙ not-true _ parts.0))

pub apart_without : (hands : Hands) (card : Card) → IsApart hands → IsApart (without hands card)
apart_without hands gone apart place other card held also =
    apart place other card (without_had hands gone card place held).0 (without_had hands gone card other also).0

-- a card that is in no hand stays out, and the card that goes is out
out_without : (hands : Hands) (gone card : Card) → IsOut hands card → IsOut (without hands gone) card
out_without hands gone card out place = left_without hands gone card place ∙ and_right _ _ (out place)

gone_without : (hands : Hands) (card : Card) → IsOut (without hands card) card
gone_without hands card place = left_without hands card card place ∙ and_left _ _ (ap not (tied card card refl))

-- a card that is in no hand isn't the one that is held
out_other : (hands : Hands) (card held : Card) (place : Place) → IsOut hands card →
    set.contains (hand_of hands place) held ≡ true → card ≢ held
out_other hands card held place out here e =
    true≢false (sym here ∙ ap (set.contains (hand_of hands place)) (sym e) ∙ out place)

-- the trick goes on, or is complete
under_way_after : (hands : Hands) (table : List Card) (card : Card) (place : Place) → IsUnderWay hands table →
    set.contains (hand_of hands place) card ≡ true → IsUnderWay (without hands card) (table_after table card)
under_way_after hands [] d place trick held = gone_without hands d
under_way_after hands (a ∷ []) d place out held =
    (out_without hands d a out, (gone_without hands d, out_other hands a d place out held))
under_way_after hands (a ∷ b ∷ []) d place (out_a, (out_b, ab)) held = (
  (out_without hands d a out_a, (out_without hands d b out_b, gone_without hands d)),
  (ab, (out_other hands a d place out_a held, out_other hands b d place out_b held)),
)
under_way_after hands (a ∷ b ∷ c ∷ []) d place trick held = tt
under_way_after hands (a ∷ b ∷ c ∷ e ∷ _) d place none held = absurd none

-- of the four players in turn each is one
one_in_four : (leader place : Place) →
    one_for leader place + one_for (left_of leader) place + one_for (left_of (left_of leader)) place
    + one_for (left_of (left_of (left_of leader))) place ≡ 1
one_in_four North North = refl
one_in_four North East = refl
one_in_four North South = refl
one_in_four North West = refl
one_in_four East North = refl
one_in_four East East = refl
one_in_four East South = refl
one_in_four East West = refl
one_in_four South North = refl
one_in_four South East = refl
one_in_four South South = refl
one_in_four South West = refl
one_in_four West North = refl
one_in_four West East = refl
one_in_four West South = refl
one_in_four West West = refl

pub same_place : (place other : Place) → place_number place ≡ place_number other → place ≡ other
same_place North North e = refl
same_place North East e = absurd (omega (arith, e))
same_place North South e = absurd (omega (arith, e))
same_place North West e = absurd (omega (arith, e))
same_place East North e = absurd (omega (arith, e))
same_place East East e = refl
same_place East South e = absurd (omega (arith, e))
same_place East West e = absurd (omega (arith, e))
same_place South North e = absurd (omega (arith, e))
same_place South East e = absurd (omega (arith, e))
same_place South South e = refl
same_place South West e = absurd (omega (arith, e))
same_place West North e = absurd (omega (arith, e))
same_place West East e = absurd (omega (arith, e))
same_place West South e = absurd (omega (arith, e))
same_place West West e = refl

-- a set with a card in it isn't empty
pub has_some : (cards : Cards) (card : Card) → set.contains cards card ≡ true → 0 < set.len cards
has_some cards card held =
    elim (cases_eq (set.len cards) 0) [
      | inl none ↦
          absurd (true≢false (sym held ∙ ap (λ s. set.contains s card) (set.empty_of_len cards none)
          ∙ set.contains-empty card_cmp card))
      | inr some ↦ omega arith
    ]

-- who plays a card has one fewer, and nobody else has
pub fewer : (hands : Hands) (card : Card) (player place : Place) → IsApart hands →
    set.contains (hand_of hands player) card ≡ true →
    set.len (hand_of (without hands card) place) + one_for player place ≡ set.len (hand_of hands place)
fewer hands card player place apart held =
    elim (cases_eq (place_number player) (place_number place)) [
      | inl same ↦
          let here = same_place player place same in
          let had : set.contains (hand_of hands place) card ≡ true = ap (λ x. set.contains (hand_of hands x) card)
          (sym here) ∙ held in
          let some : 0 < set.len (hand_of hands place) = has_some (hand_of hands place) card had in
          let left : set.len (hand_of (without hands card) place) ≡ set.len (hand_of hands place) - 1 =
          ap set.len (hand_without hands card place) ∙ set.len-remove card_cmp_total (hand_of hands place) card
          ∙ cond-true _ _ _ had in
          let one : one_for player place ≡ 1 = cond-true _ _ _ (eq-eqb _ _ same) in
          omega arith
      | inr other ↦
          let had_not : set.contains (hand_of hands place) card ≡ false =
          false_from_ne_true _ (λ had. other (ap place_number (apart player place card held had))) in
          let left : set.len (hand_of (without hands card) place) ≡ set.len (hand_of hands place) =
          ap set.len (hand_without hands card place) ∙ set.len-remove card_cmp_total (hand_of hands place) card
          ∙ cond-false _ _ _ had_not in
          let none : one_for player place ≡ 0 = cond-false _ _ _ (ne_eqb _ _ other) in
          omega arith
    ]

-- a card on the table is counted to its player as it was in the hand, and a complete trick takes one from each
pub completed : List Card → ℕ
completed [] = 0
completed (a ∷ []) = 0
completed (a ∷ b ∷ []) = 0
completed (a ∷ b ∷ c ∷ _) = 1

played_after : (strain : Strain) (leader : Place) (hands : Hands) (table : List Card) (card : Card) (place : Place) →
    IsUnderWay hands table →
    played_by (leader_after strain leader table card) (table_after table card) place + completed table ≡ played_by
    leader table place + one_for (turn leader table) place
unfolding completed
played_after strain leader hands [] d place trick = omega arith
played_after strain leader hands (a ∷ []) d place trick = omega arith
played_after strain leader hands (a ∷ b ∷ []) d place trick = omega arith
played_after strain leader hands (a ∷ b ∷ c ∷ []) d place trick = omega (arith, one_in_four leader place)
played_after strain leader hands (a ∷ b ∷ c ∷ e ∷ _) d place none = absurd none

count_after : (p : Position) (card : Card) (place : Place) → IsPosition p →
    set.contains (hand_of p.hands (to_play p)) card ≡ true →
    count_of (after p card) place + completed p.table ≡ count_of p place
count_after p card place valid held =
    omega (
      arith,
      played_after p.strain p.leader p.hands p.table card place valid.trick,
      fewer p.hands card (to_play p)
          place valid.apart held,
    )

-- a legal card leads from a position to a position
pub position_after : (p : Position) (card : Card) → IsPosition p → set.contains (legal p) card ≡ true →
    IsPosition (after p card)
position_after p card valid may =
    let held = legal_held (hand_of p.hands (to_play p)) p.table card may in
    record {
      apart = apart_without p.hands card valid.apart;
      trick = under_way_after p.hands p.table card (to_play p) valid.trick held;
      equal =
          λ place other. omega (
            arith,
            count_after p card place valid held,
            count_after p card other valid held,
            valid.equal place other,
          );
    }

-- a player is one of the four
one_of_all : (place : Place) → one_for place North + one_for place East + one_for place South + one_for place West ≡ 1
one_of_all North = refl
one_of_all East = refl
one_of_all South = refl
one_of_all West = refl

-- the cards on the table are counted to the four players
all_played : (leader : Place) (table : List Card) →
    played_by leader table North + played_by leader table East + played_by leader table South + played_by leader table
    West ≡ length table
all_played leader [] = refl
all_played leader (a ∷ table) = omega (arith, all_played (left_of leader) table, one_of_all leader)

-- the cards left and those on the table are four times what each player has
pub four_times : (p : Position) → IsPosition p → cards_left p + length p.table ≡ 4 * count_of p North
four_times p valid =
    omega (arith, all_played p.leader p.table, valid.equal East North, valid.equal South North, valid.equal West North)

-- the player in turn hasn't played to the trick
yet_to_play : (leader : Place) (hands : Hands) (table : List Card) → IsUnderWay hands table →
    played_by leader table (turn leader table) ≡ 0
yet_to_play leader hands [] trick = refl
yet_to_play North hands (a ∷ []) trick = refl
yet_to_play East hands (a ∷ []) trick = refl
yet_to_play South hands (a ∷ []) trick = refl
yet_to_play West hands (a ∷ []) trick = refl
yet_to_play North hands (a ∷ b ∷ []) trick = refl
yet_to_play East hands (a ∷ b ∷ []) trick = refl
yet_to_play South hands (a ∷ b ∷ []) trick = refl
yet_to_play West hands (a ∷ b ∷ []) trick = refl
yet_to_play North hands (a ∷ b ∷ c ∷ []) trick = refl
yet_to_play East hands (a ∷ b ∷ c ∷ []) trick = refl
yet_to_play South hands (a ∷ b ∷ c ∷ []) trick = refl
yet_to_play West hands (a ∷ b ∷ c ∷ []) trick = refl
yet_to_play leader hands (a ∷ b ∷ c ∷ d ∷ _) none = absurd none

none_from_items : (cards : Cards) → set.items cards ≡ [] → cards ≡ set.empty
none_from_items cards none = same_cards cards set.empty (λ card.
    set.contains-items cards card ∙ ap (list_any (eq_by_cmp card_cmp card)) none
    ∙ sym (set.contains-empty card_cmp card))

-- a set that isn't empty has a card
some_card : (cards : Cards) → (set.len cards ≡ 0 → ⊥) → (card : Card) × (set.contains cards card ≡ true)
some_card cards some = first_of (set.items cards) refl
  where
    first_of : (items : List Card) → set.items cards ≡ items → (card : Card) × (set.contains cards card ≡ true)
    first_of [] none = absurd (some (ap set.len (none_from_items cards none) ∙ set.len-empty card_cmp))
    first_of (card ∷ rest) is = (
      card,
      set.contains-items cards card ∙ ap (list_any (eq_by_cmp card_cmp card)) is ∙ or_left _ _
          (tied card card refl),
    )

-- some of a hand that isn't empty may be played
legal_some : (hand : Cards) (table : List Card) → (set.len hand ≡ 0 → ⊥) → set.len (legal_of hand table) ≡ 0 → ⊥
legal_some hand [] some = some
legal_some hand (led ∷ table) some =
    elim (cases_eq (set.len (set.retain hand (is_of led.suit))) 0) [
      | inl none ↦ λ e. some (sym (ap set.len (cond-true _ _ _ (eq-eqb _ _ none))) ∙ e)
      | inr held ↦ λ e. held (sym (ap set.len (cond-false _ _ _ (ne_eqb _ _ held))) ∙ e)
    ]

-- where cards are left, the player in turn has one that may be played
pub can_play : (p : Position) → IsPosition p → (cards_left p ≡ 0 → ⊥) →
    (card : Card) × (set.contains (legal p) card ≡ true)
can_play p valid some = some_card (legal p) (legal_some (hand_of p.hands (to_play p)) p.table held)
  where
    held : set.len (hand_of p.hands (to_play p)) ≡ 0 → ⊥
    held none =
        some (omega (
          arith,
          none,
          yet_to_play p.leader p.hands p.table valid.trick,
          valid.equal (to_play p) North,
          four_times p valid,
        ))

-- a legal card leaves one card fewer in the hands
pub one_fewer : (p : Position) (card : Card) → IsPosition p → set.contains (legal p) card ≡ true →
    cards_left (after p card) + 1 ≡ cards_left p
one_fewer p card valid may =
    let player = to_play p in
    let held = legal_held (hand_of p.hands player) p.table card may in
    omega (
      arith,
      one_of_all player,
      fewer p.hands card player North valid.apart held,
      fewer p.hands card player East valid.apart held,
      fewer p.hands card player South valid.apart held,
      fewer p.hands card player West valid.apart held,
    )
