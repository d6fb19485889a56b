-- Who wins a trick, and that it stays so when the cards get other names.
use Rattle.std.proofs.Common.{◌≡◌, ◌≢◌, ℕ, ◌+◌, ◌<◌, Bool, true, false, ◌⊎◌, refl, sym, ap, ◌∙◌, subst, inl, inr, arith}
use Rattle.std.specs.Prelude.{nat_eq, nat_le, ◌&&◌, ◌||◌, Option, Some, None}
use Rattle.std.proofs.lemmas.Bool.{
  cases_lt,
  cases_order,
  eq-eqb,
  and_from,
  and_left,
  and_right,
  le-leb,
  lt-leb,
  eqb-true,
  true≢false,
  cond-true,
  cond-false,
}
use Rattle.cards.specs.declared.card.Card.{Card}
use Rattle.table_terms.specs.declared.suit.Suit.{Suit}
use Rattle.table_terms.specs.declared.suit.Suit.TheVariants.{Spades, Hearts, Diamonds, Clubs}
use Rattle.cards.specs.declared.rank.Rank.{Rank}
use Rattle.table_terms.specs.declared.place.Place.{Place}
use Rattle.table_terms.specs.declared.place.Place.TheVariants.{North, East, South, West}
use Rattle.table_terms.specs.declared.strain.Strain.{Strain}
use Rattle.cards.specs.CardBits.{each_rank, same_number}
use Rattle.table_terms.specs.Suit.{suit_number}
use Rattle.cards.specs.Rank.{height}
use Rattle.table_terms.specs.Place.{left_of}
use Rattle.table_terms.specs.Strain.{trump_of}
use Rattle.cards.specs.Play.{is_of, is_trump, strength, strength_by, strength_in, strongest, winner}
use Rattle.double_dummy_laws.specs.Renaming.{IsLiveCardOf, IsRenaming, Ownership}
use Rattle.double_dummy_laws.specs.Known.{IsAbove, IsSettled, IsTrickKnown}

pub height_below : (rank : Rank) → height rank < 13
height_below = each_rank (λ rank. height rank < 13) (omega arith) (omega arith) (omega arith) (omega arith)
    (omega arith) (omega arith) (omega arith) (omega arith) (omega arith) (omega arith) (omega arith) (omega arith)
    (omega arith)

pub same_suit : (a b : Suit) → suit_number a ≡ suit_number b → a ≡ b
same_suit Spades Spades e = refl
same_suit Spades Hearts e = absurd (omega arith)
same_suit Spades Diamonds e = absurd (omega arith)
same_suit Spades Clubs e = absurd (omega arith)
same_suit Hearts Spades e = absurd (omega arith)
same_suit Hearts Hearts e = refl
same_suit Hearts Diamonds e = absurd (omega arith)
same_suit Hearts Clubs e = absurd (omega arith)
same_suit Diamonds Spades e = absurd (omega arith)
same_suit Diamonds Hearts e = absurd (omega arith)
same_suit Diamonds Diamonds e = refl
same_suit Diamonds Clubs e = absurd (omega arith)
same_suit Clubs Spades e = absurd (omega arith)
same_suit Clubs Hearts e = absurd (omega arith)
same_suit Clubs Diamonds e = absurd (omega arith)
same_suit Clubs Clubs e = refl

-- two cards of one suit
pub both_of : (suit : Suit) (a b : Card) → is_of suit a ≡ true → is_of suit b ≡ true → a.suit ≡ b.suit
both_of suit a b of_a of_b = same_suit a.suit b.suit (sym (eqb-true _ _ of_a) ∙ eqb-true _ _ of_b)

pub both_trumps : (trump : Option Suit) (a b : Card) → is_trump trump a ≡ true → is_trump trump b ≡ true → a.suit ≡ b.suit
both_trumps None a b of_a of_b = absurd (true≢false (sym of_a))
both_trumps (Some suit) a b of_a of_b = both_of suit a b of_a of_b

-- the order of two strengths, with other heights that keep the order where it counts
order_by : (ta tb la lb : Bool) (ha hb ha' hb' : ℕ) → ha < 13 → hb < 13 → ha' < 13 →
    (ta ≡ true → tb ≡ true → ha < hb → ha' < hb') → (la ≡ true → lb ≡ true → ha < hb → ha' < hb') →
    strength_by ta la ha < strength_by tb lb hb → strength_by ta la ha' < strength_by tb lb hb'
order_by true true la lb ha hb ha' hb' fits fitsb fits' trumps led less = let more : ha' < hb' =
    trumps refl refl (omega arith) in omega arith
order_by true false la true ha hb ha' hb' fits fitsb fits' trumps led less = absurd (omega arith)
order_by true false la false ha hb ha' hb' fits fitsb fits' trumps led less = absurd (omega arith)
order_by false true true lb ha hb ha' hb' fits fitsb fits' trumps led less = omega arith
order_by false true false lb ha hb ha' hb' fits fitsb fits' trumps led less = omega arith
order_by false false true true ha hb ha' hb' fits fitsb fits' trumps led less = let more : ha' < hb' =
    led refl refl (omega arith) in omega arith
order_by false false true false ha hb ha' hb' fits fitsb fits' trumps led less = absurd (omega arith)
order_by false false false true ha hb ha' hb' fits fitsb fits' trumps led less = omega arith
order_by false false false false ha hb ha' hb' fits fitsb fits' trumps led less = absurd (omega arith)

pub same_trump : (trump : Option Suit) (a b : Card) → a.suit ≡ b.suit → is_trump trump a ≡ is_trump trump b
same_trump None a b e = refl
same_trump (Some suit) a b e = ap (λ s. nat_eq (suit_number suit) (suit_number s)) e

-- of two cards that belong to two players, the stronger stays the stronger, if one is known or their suits differ
pub stronger_stays : (ownership : Ownership) (name : Card → Card) (trump : Option Suit) (led : Suit) (a b : Card) →
    IsRenaming ownership name →
    ownership.is_live a ≡ true → ownership.is_live b ≡ true → ownership.owner a ≢ ownership.owner b →
    (a.suit ≡ b.suit → (ownership.is_known a || ownership.is_known b) ≡ true) →
    strength trump led a < strength trump led b → strength trump led (name a) < strength trump led (name b)
stronger_stays ownership name trump led a b renaming live_a live_b owners known less =
    subst (λ x. x < strength trump led (name b))
    (λ i. strength_by (same_trump trump a (name a) (sym (renaming.suit a live_a)) i)
    (nat_eq (suit_number led) (suit_number (sym (renaming.suit a live_a) i))) (height (name a).rank))
    (subst (λ x. strength_by (is_trump trump a) (is_of led a) (height (name a).rank) < x)
    (λ i. strength_by (same_trump trump b (name b) (sym (renaming.suit b live_b)) i)
    (nat_eq (suit_number led) (suit_number (sym (renaming.suit b live_b) i))) (height (name b).rank))
    (order_by (is_trump trump a) (is_trump trump b) (is_of led a) (is_of led b) _ _ _ _ (height_below a.rank)
    (height_below b.rank) (height_below (name a).rank)
    (λ of_a of_b. let same = both_trumps trump a b of_a of_b in
    renaming.order a b live_a live_b (known same) owners same)
    (λ of_a of_b. let same = both_of led a b of_a of_b in renaming.order a b live_a live_b (known same) owners same)
    less))

pub first_wins : (leader : Place) (a b c d : ℕ) → IsAbove a b c d → strongest leader a b c d ≡ leader
unfolding strongest
first_wins leader a b c d above =
    cond-true _ _ _ (and_from _ _ (and_from _ _ (le-leb b a (omega arith)) (le-leb c a (omega arith)))
    (le-leb d a (omega arith)))

pub second_wins : (leader : Place) (a b c d : ℕ) → IsAbove b a c d → strongest leader a b c d ≡ left_of leader
unfolding strongest
second_wins leader a b c d above =
    cond-false _ _ _ (and_left _ _ (and_left _ _ (lt-leb b a (omega arith))))
    ∙ cond-true _ _ _ (and_from _ _ (le-leb c b (omega arith)) (le-leb d b (omega arith)))

pub third_wins : (leader : Place) (a b c d : ℕ) → IsAbove c a b d → strongest leader a b c d ≡ left_of (left_of leader)
unfolding strongest
third_wins leader a b c d above =
    cond-false _ _ _ (and_left _ (nat_le d a) (and_right (nat_le b a) (nat_le c a) (lt-leb c a (omega arith))))
    ∙ cond-false _ _ _ (and_left (nat_le c b) (nat_le d b) (lt-leb c b (omega arith)))
    ∙ cond-true _ _ _ (le-leb d c (omega arith))

pub fourth_wins : (leader : Place) (a b c d : ℕ) → IsAbove d a b c →
    strongest leader a b c d ≡ left_of (left_of (left_of leader))
unfolding strongest
fourth_wins leader a b c d above =
    cond-false _ _ _ (and_right (nat_le b a && nat_le c a) (nat_le d a) (lt-leb d a (omega arith)))
    ∙ cond-false _ _ _ (and_right (nat_le c b) (nat_le d b) (lt-leb d b (omega arith)))
    ∙ cond-false _ _ _ (lt-leb d c (omega arith))

-- one of four numbers is above the others, where the first is above 0 and no two above 0 are equal
pub data OneAbove (a b c d : ℕ) : Type 0 where
  first : IsAbove a b c d → OneAbove a b c d
  second : IsAbove b a c d → OneAbove a b c d
  third : IsAbove c a b d → OneAbove a b c d
  fourth : IsAbove d a b c → OneAbove a b c d

-- two numbers are different, or both are 0
abbrev pub AreApart : ℕ → ℕ → Type 0
AreApart a b = (a < b) ⊎ ((b < a) ⊎ (a + b ≡ 0))

pub one_above : (a b c d : ℕ) → 0 < a → (a ≢ b) → (a ≢ c) → (a ≢ d) → AreApart b c → AreApart b d → AreApart c d →
    OneAbove a b c d
one_above a b c d some ab ac ad bc bd cd =
    elim (cases_lt a b) [
      | inl h ↦ elim (cases_lt b c) [
        | inl k ↦ elim (cases_lt c d) [
          | inl l ↦ fourth (record { first = omega arith; second = omega arith; third = omega arith })
          | inr l ↦ third (record { first = omega arith; second = omega arith; third = omega arith })
        ]
        | inr k ↦ elim (cases_lt b d) [
          | inl l ↦ fourth (record { first = omega arith; second = omega arith; third = omega arith })
          | inr l ↦ second (record { first = omega arith; second = omega arith; third = omega arith })
        ]
      ]
      | inr h ↦ elim (cases_lt a c) [
        | inl k ↦ elim (cases_lt c d) [
          | inl l ↦ fourth (record { first = omega arith; second = omega arith; third = omega arith })
          | inr l ↦ third (record { first = omega arith; second = omega arith; third = omega arith })
        ]
        | inr k ↦ elim (cases_lt a d) [
          | inl l ↦ fourth (record { first = omega arith; second = omega arith; third = omega arith })
          | inr l ↦ first (record { first = omega arith; second = omega arith; third = omega arith })
        ]
      ]
    ]

-- the strength of the card that was led
led_counts : (trump : Option Suit) (a : Card) → 0 < strength trump a.suit a
led_counts trump a = counts (is_trump trump a) (is_of a.suit a) (eq-eqb _ _ refl)
  where
    counts : (t l : Bool) → l ≡ true → 0 < strength_by t l (height a.rank)
    counts true l e = omega arith
    counts false true e = omega arith
    counts false false e = absurd (true≢false (sym e))

apart_by : (ta tb la lb : Bool) (ha hb : ℕ) → ha < 13 → hb < 13 → (ta ≡ true → tb ≡ true → ha ≢ hb) →
    (la ≡ true → lb ≡ true → ha ≢ hb) →
    AreApart (strength_by ta la ha) (strength_by tb lb hb)
apart_by true true la lb ha hb fits fitsb trumps led =
    elim (cases_order ha hb) [
      | inl e ↦ absurd (trumps refl refl e)
      | inr (inl l) ↦ inl (omega arith)
      | inr
          (inr l) ↦ inr (inl (omega arith))
    ]
apart_by true false la true ha hb fits fitsb trumps led = inr (inl (omega arith))
apart_by true false la false ha hb fits fitsb trumps led = inr (inl (omega arith))
apart_by false true true lb ha hb fits fitsb trumps led = inl (omega arith)
apart_by false true false lb ha hb fits fitsb trumps led = inl (omega arith)
apart_by false false true true ha hb fits fitsb trumps led =
    elim (cases_order ha hb) [
      | inl e ↦ absurd (led refl refl e)
      | inr (inl l) ↦ inl (omega arith)
      | inr (inr l) ↦ inr
          (inl (omega arith))
    ]
apart_by false false true false ha hb fits fitsb trumps led = inr (inl (omega arith))
apart_by false false false true ha hb fits fitsb trumps led = inl (omega arith)
apart_by false false false false ha hb fits fitsb trumps led = inr (inr (omega arith))

same_card : (a b : Card) → a.suit ≡ b.suit → height a.rank ≡ height b.rank → a ≡ b
same_card a b suits heights = same_number a b (omega (arith, ap suit_number suits))

-- two cards have two strengths, or none
apart : (trump : Option Suit) (led : Suit) (a b : Card) → a ≢ b → AreApart (strength trump led a) (strength trump led b)
apart trump led a b other =
    apart_by (is_trump trump a) (is_trump trump b) (is_of led a) (is_of led b) _ _ (height_below a.rank)
    (height_below b.rank)
    (λ of_a of_b e. other (same_card a b (both_trumps trump a b of_a of_b) e))
    (λ of_a of_b e. other (same_card a b (both_of led a b of_a of_b) e))

-- four players in turn
pub turns_1 : (place : Place) → place ≢ left_of place
turns_1 North e = cc
turns_1 East e = cc
turns_1 South e = cc
turns_1 West e = cc

pub turns_2 : (place : Place) → place ≢ left_of (left_of place)
turns_2 North e = cc
turns_2 East e = cc
turns_2 South e = cc
turns_2 West e = cc

pub turns_3 : (place : Place) → place ≢ left_of (left_of (left_of place))
turns_3 North e = cc
turns_3 East e = cc
turns_3 South e = cc
turns_3 West e = cc

-- the cards of a trick, and who played them
pub record IsTrick (ownership : Ownership) (leader : Place) (a b c d : Card) : Type 0 where
  pub first : IsLiveCardOf ownership leader a
  pub second : IsLiveCardOf ownership (left_of leader) b
  pub third : IsLiveCardOf ownership (left_of (left_of leader)) c
  pub fourth : IsLiveCardOf ownership (left_of (left_of (left_of leader))) d

others : (ownership : Ownership) (x y : Place) (a b : Card) → IsLiveCardOf ownership x a → IsLiveCardOf ownership y b →
    x ≢ y →
    ownership.owner a ≢ ownership.owner b
others ownership x y a b (_, of_a) (_, of_b) ne e = ne (sym of_a ∙ e ∙ of_b)

unequal : (a b : ℕ) → 0 < a → AreApart a b → a ≢ b
unequal a b some differ e = omega arith

differ : (ownership : Ownership) (trump : Option Suit) (led : Suit) (x y : Place) (a b : Card) →
    IsLiveCardOf ownership x a → IsLiveCardOf ownership y b → x ≢ y →
    AreApart (strength trump led a) (strength trump led b)
differ ownership trump led x y a b of_a of_b ne =
    apart trump led a b (λ e. others ownership x y a b of_a of_b ne (ap ownership.owner e))

-- the places of a trick's cards, all different
pub record ArePlaces (x y z w : Place) : Type 0 where
  pub xy : x ≢ y
  pub xz : x ≢ z
  pub xw : x ≢ w
  pub yz : y ≢ z
  pub yw : y ≢ w
  pub zw : z ≢ w

places : (leader : Place) → ArePlaces leader (left_of leader) (left_of (left_of leader))
    (left_of (left_of (left_of leader)))
places leader = record {
  xy = turns_1 leader;
  xz = turns_2 leader;
  xw = turns_3 leader;
  yz = turns_1 (left_of leader);
  yw = turns_2 (left_of leader);
  zw = turns_1 (left_of (left_of leader));
}

pub flip : {x y : Place} → x ≢ y → y ≢ x
flip ne e = ne (sym e)

-- the strongest card of a trick stays above the other three
module _ (ownership : Ownership) (name : Card →
    Card) (renaming : IsRenaming ownership name) (trump : Option Suit) (led : Suit) where
  stays_above : (w x y z : Place) (top a b c : Card) → IsLiveCardOf ownership w top → IsLiveCardOf ownership x a →
      IsLiveCardOf ownership y b → IsLiveCardOf ownership z c →
      x ≢ w → y ≢ w → z ≢ w → IsSettled ownership top a b c →
      IsAbove (strength trump led top) (strength trump led a) (strength trump led b) (strength trump led c) →
      IsAbove (strength trump led (name top)) (strength trump led (name a)) (strength trump led (name b))
      (strength trump led (name c))
  stays_above w x y z top a b c of_top of_a of_b of_c xw yw zw settled above = record {
    first = stronger_stays ownership name trump led a top renaming of_a.0 of_top.0
        (others ownership x w a top of_a of_top xw) settled.first above.first;
    second = stronger_stays ownership name trump led b top renaming of_b.0 of_top.0
        (others ownership y w b top of_b of_top yw) settled.second above.second;
    third = stronger_stays ownership name trump led c top renaming of_c.0 of_top.0
        (others ownership z w c top of_c of_top zw) settled.third above.third;
  }

-- the same trick is won by the same player when its cards get other names
pub winner_stays : (ownership : Ownership) (name : Card → Card) (strain : Strain) (leader : Place) (a b c d : Card) →
    IsRenaming ownership name →
    IsTrick ownership leader a b c d → IsTrickKnown ownership strain a b c d →
    winner strain leader (name a) (name b) (name c) (name d) ≡ winner strain leader a b c d
winner_stays ownership name strain leader a b c d renaming trick known =
    let trump = trump_of strain in
    let stays = stays_above ownership name renaming trump a.suit in
    let at = places leader in
    let ab = differ ownership trump a.suit _ _ a b trick.first trick.second at.xy in
    let ac = differ ownership trump a.suit _ _ a c trick.first trick.third at.xz in
    let ad = differ ownership trump a.suit _ _ a d trick.first trick.fourth at.xw in
    let bc = differ ownership trump a.suit _ _ b c trick.second trick.third at.yz in
    let bd = differ ownership trump a.suit _ _ b d trick.second trick.fourth at.yw in
    let cd = differ ownership trump a.suit _ _ c d trick.third trick.fourth at.zw in
    let some = led_counts trump a in
    ap (λ suit. strongest leader (strength trump suit (name a)) (strength trump suit (name b))
    (strength trump suit (name c)) (strength trump suit (name d))) (renaming.suit a trick.first.0)
    ∙ elim (one_above _ _ _ _ some (unequal _ _ some ab) (unequal _ _ some ac) (unequal _ _ some ad) bc bd cd) [
      | first top ↦
          first_wins leader _ _ _ _ (stays _ _ _ _ a b c d trick.first trick.second trick.third trick.fourth
          (flip at.xy) (flip at.xz) (flip at.xw) (known.first top) top)
          ∙ sym (first_wins leader _ _ _ _ top)
      | second top ↦
          second_wins leader _ _ _ _ (stays _ _ _ _ b a c d trick.second trick.first trick.third trick.fourth at.xy
          (flip at.yz) (flip at.yw) (known.second top) top)
          ∙ sym (second_wins leader _ _ _ _ top)
      | third top ↦
          third_wins leader _ _ _ _ (stays _ _ _ _ c a b d trick.third trick.first trick.second trick.fourth at.xz
          at.yz (flip at.zw) (known.third top) top)
          ∙ sym (third_wins leader _ _ _ _ top)
      | fourth top ↦
          fourth_wins leader _ _ _ _ (stays _ _ _ _ d a b c trick.fourth trick.first trick.second trick.third at.xw
          at.yw at.zw (known.fourth top) top)
          ∙ sym (fourth_wins leader _ _ _ _ top)
    ]

-- a card that is led beats what is no trump, lower cards of its suit, and other suits
led_beats : (to_trump lt led lc : Bool) (ho hc : ℕ) → ho < 13 → lc ≡ true → (led ≡ true → ho < hc) →
    strength_by false led ho < strength_by to_trump lc hc
led_beats true lt true true ho hc fits is lower = let less : ho < hc = lower refl in omega arith
led_beats true lt false true ho hc fits is lower = omega arith
led_beats false lt true true ho hc fits is lower = let less : ho < hc = lower refl in omega arith
led_beats false lt false true ho hc fits is lower = omega arith
led_beats t lt led false ho hc fits is lower = absurd (true≢false (sym is))

pub unbeaten : (strain : Strain) (card other : Card) → is_trump (trump_of strain) other ≡ false →
    (other.suit ≡ card.suit → height other.rank < height card.rank) →
    strength_in strain card other < strength_in strain card card
unbeaten strain card other no_trump lower =
    subst (λ t. strength_by t (is_of card.suit other) (height other.rank)
    < strength_by (is_trump (trump_of strain) card) (is_of card.suit card) (height card.rank)) (sym no_trump)
    (led_beats (is_trump (trump_of strain) card) true (is_of card.suit other) (is_of card.suit card) _ _
    (height_below other.rank) (eq-eqb _ _ refl)
    (λ same. lower (both_of card.suit other card same (eq-eqb _ _ refl))))
