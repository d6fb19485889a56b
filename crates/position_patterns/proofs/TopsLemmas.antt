-- What is remembered of a pattern holds of each position of it.
use Rattle.std.proofs.Common.{
  subst,
  ◌≡◌,
  ℕ,
  ◌+◌,
  ◌*◌,
  ◌%◌,
  ◌^◌,
  ◌<◌,
  ◌≤◌,
  Bool,
  true,
  List,
  [],
  ◌∷◌,
  length,
  refl,
  sym,
  ap,
  ◌∙◌,
  inl,
  inr,
  arith,
  Option,
  Some,
  None,
  false,
}
use Rattle.std.specs.Prelude.{◌||◌, ◌&&◌}
use Rattle.std.specs.List.{list_any}
use Rattle.std.specs.Ordering.{eq_by_cmp}
use Rattle.std.proofs.lemmas.Bool.{
  or_cases,
  or_left,
  or_right,
  and_parts,
  and_from,
  true≢false,
  leb-true,
  leb-false,
  le-leb,
  lt-leb,
}
use Rattle.cards.specs.declared.card.Card.{Card}
use Rattle.table_terms.specs.declared.suit.Suit.{Suit}
use Rattle.table_terms.specs.declared.suit.Suit.TheVariants.{Spades, Hearts, Diamonds, Clubs}
use Rattle.cards.specs.declared.rank.Rank.{Rank}
use Rattle.table_terms.specs.declared.place.Place.{Place}
use Rattle.table_terms.specs.declared.place.Place.TheVariants.{North, East, South, West}
use Rattle.cards.specs.Rank.{ranks_down}
use Rattle.cards.specs.Card.{card_cmp}
use Rattle.cards.specs.Cards.{Cards}
use Rattle.cards.specs.Hands.{Hands, hand_of}
use Rattle.cards.proofs.CardBitsLemmas.{card_cmp-IsAntisymmetric}
use Rattle.std.specs.FinSet as set
use Rattle.position_patterns.specs.declared.pattern.SuitTops.{SuitTops}
use Rattle.position_patterns.specs.declared.pattern.SuitPattern.{SuitPattern}
use Rattle.position_patterns.specs.declared.pattern.Remembered.{Remembered}
use Rattle.cards.specs.Play.{cards_left, IsApart, Position, start, without}
use Rattle.position_patterns.proofs.DigitLemmas.{tops_from_digits}
use Rattle.position_patterns.proofs.RankLemmas.{low_digits_four}
use Rattle.position_patterns.proofs.SetLemmas.{in_first, in_second}
use Rattle.position_patterns.specs.Tops.{
  HasTopCards,
  HasTops,
  IsPatternOf,
  IsReach,
  IsTruePattern,
  Matches,
  lengths_number,
  place_weight,
  tops_of,
}
use Rattle.double_dummy_laws.proofs.EqualCardsLemmas.{kept}
use Rattle.double_dummy_laws.proofs.HandLemmas.{without_had}
use Rattle.double_dummy_laws.proofs.OwnershipLemmas.{tight}
use Rattle.double_dummy_laws.proofs.PatternLemmas.{listed_top, partition}
use Rattle.double_dummy_laws.specs.Found.{IsFound, IsOwned}
use Rattle.double_dummy_laws.specs.Pattern.{
  Held,
  IsTop,
  held_before,
  held_of,
  holder_of,
  holding,
  how_many,
  one_if,
  same_place,
}
use Rattle.double_dummy_laws.specs.Renaming.{Ownership}

-- the lengths, from their number
weight_parts : (place : Place) →
    place_weight place ≡ one_if (same_place North place) + 16 * one_if (same_place East place) + 256 * one_if
    (same_place South place) + 4096 * one_if (same_place West place)
weight_parts North = refl
weight_parts East = refl
weight_parts South = refl
weight_parts West = refl

lengths_parts : (xs : List Held) →
    lengths_number xs ≡ how_many North xs + 16 * how_many East xs + 256 * how_many South xs + 4096 * how_many West xs
lengths_parts [] = refl
lengths_parts (x ∷ xs) = let first = weight_parts x.place in let others = lengths_parts xs in omega arith

one_place : (place : Place) → one_if (same_place North place) + one_if (same_place East place) + one_if
    (same_place South place) + one_if (same_place West place) ≡ 1
one_place North = refl
one_place East = refl
one_place South = refl
one_place West = refl

length_parts : (xs : List Held) →
    length xs ≡ how_many North xs + how_many East xs + how_many South xs + how_many West xs
length_parts [] = refl
length_parts (x ∷ xs) = let first = one_place x.place in let others = length_parts xs in omega arith

before_length : (card : Card) (holder : Option Place) (rest : List Held) →
    length (held_before card holder rest) ≤ length rest + 1
before_length card None rest = omega arith
before_length card (Some place) rest = omega arith

held_length : (hands : Hands) (suit : Suit) (ranks : List Rank) → length (held_of hands suit ranks) ≤ length ranks
held_length hands suit [] = omega arith
held_length hands suit (rank ∷ ranks) =
    let first = before_length (record { suit = suit; rank = rank })
    (holder_of hands (record { suit = suit; rank = rank })) (held_of hands suit ranks) in
    let others = held_length hands suit ranks in
    omega arith

thirteen : length ranks_down ≡ 13
unfolding ranks_down
thirteen = refl

pub holding_length : (hands : Hands) (suit : Suit) → length (holding hands suit) ≤ 13
holding_length hands suit = let few = held_length hands suit ranks_down in let all = thirteen in omega arith

low_sixteen : (a b m n : ℕ) → a < 16 → b < 16 → a + 16 * m ≡ b + 16 * n → (a ≡ b) × (m ≡ n)
low_sixteen a b m n small small' e = (omega arith, omega arith)

-- four counts below 16 are known from their number
record SameFour (a b c d a' b' c' d' : ℕ) : Type 0 where
  first : a ≡ a'
  second : b ≡ b'
  third : c ≡ c'
  fourth : d ≡ d'

same_four : (a b c d a' b' c' d' : ℕ) → a < 16 → b < 16 → c < 16 → a' < 16 → b' < 16 → c' < 16 →
    a + 16 * b + 256 * c + 4096 * d ≡ a' + 16 * b' + 256 * c' + 4096 * d' → SameFour a b c d a' b' c' d'
same_four a b c d a' b' c' d' sa sb sc sa' sb' sc' e =
    let one = low_sixteen a a' (b + 16 * c + 256 * d) (b' + 16 * c' + 256 * d') sa sa' (omega arith) in
    let first = one.1 in
    let two = low_sixteen b b' (c + 16 * d) (c' + 16 * d') sb sb' (omega arith) in
    let second = two.1 in
    let three = low_sixteen c c' d d' sc sc' (omega arith) in
    record { first = one.0; second = two.0; third = three.0; fourth = three.1 }

same_lengths : (hands others : Hands) (suit : Suit) →
    lengths_number (holding hands suit) ≡ lengths_number (holding others suit) →
    SameFour (how_many North (holding hands suit)) (how_many East (holding hands suit))
    (how_many South (holding hands suit)) (how_many West (holding hands suit))
    (how_many North (holding others suit)) (how_many East (holding others suit)) (how_many South (holding others suit))
    (how_many West (holding others suit))
same_lengths hands others suit e =
    let xs = holding hands suit in
    let ys = holding others suit in
    let few = holding_length hands suit in
    let few' = holding_length others suit in
    let all = length_parts xs in
    let all' = length_parts ys in
    let parts = lengths_parts xs in
    let parts' = lengths_parts ys in
    same_four _ _ _ _ _ _ _ _ (omega arith) (omega arith) (omega arith) (omega arith) (omega arith) (omega arith)
    (omega arith)

same_length : (hands others : Hands) (suit : Suit) →
    lengths_number (holding hands suit) ≡ lengths_number (holding others suit) →
    length (holding hands suit) ≡ length (holding others suit)
same_length hands others suit e =
    let four = same_lengths hands others suit e in
    let a = four.first in let b = four.second in let c = four.third in let d = four.fourth in
    let all = length_parts (holding hands suit) in
    let all' = length_parts (holding others suit) in
    omega arith

same_many : (hands others : Hands) (suit : Suit) (place : Place) →
    lengths_number (holding hands suit) ≡ lengths_number (holding others suit) →
    how_many place (holding hands suit) ≡ how_many place (holding others suit)
same_many hands others suit North e = (same_lengths hands others suit e).first
same_many hands others suit East e = (same_lengths hands others suit e).second
same_many hands others suit South e = (same_lengths hands others suit e).third
same_many hands others suit West e = (same_lengths hands others suit e).fourth

-- only the held cards of those that are known matter, at the beginning of a trick
held_only : (p : Position) (target : ℕ) (known kept : Cards) (answer : Bool) → p.table ≡ [] →
    ((card : Card) (place : Place) → set.contains (hand_of p.hands place) card ≡ true →
    set.contains known card ≡ true → set.contains kept card ≡ true) →
    IsFound p target known answer → IsFound p target kept answer
held_only p target known kept answer start each found ownership owned tight name hands renaming names =
    found ownership owned tight name hands
    (record {
      suit = renaming.suit;
      apart = renaming.apart;
      order = λ a b live_a live_b either. renaming.order a b live_a live_b (elim (or_cases _ _ either) [
        | inl k ↦ or_left _ _ (in_hand a live_a k)
        | inr k ↦ or_right _ _ (in_hand b live_b k)
      ]);
    })
    (record { into = names.into; onto = names.onto; live = names.live })
  where
    in_hand : (card : Card) → ownership.is_live card ≡ true → set.contains known card ≡ true →
        set.contains kept card ≡ true
    in_hand card live k = elim (tight card live) [
      | inl held ↦ each card held.0 held.1 k
      | inr played ↦ absurd (true≢false (sym played ∙ ap (list_any (eq_by_cmp card_cmp card)) start))
    ]

owned_apart : (ownership : Ownership) (q : Position) → IsOwned ownership q → IsApart q.hands
owned_apart ownership q owned x y card held held' = sym (owned.held x card held).1 ∙ (owned.held y card held').1

-- the cards of a set that are in a hand
is_held : Hands → Card → Bool
is_held hands card = set.contains hands.north card ||
    (set.contains hands.east card || (set.contains hands.south card || set.contains hands.west card))

is_held-from : (hands : Hands) (card : Card) (place : Place) → set.contains (hand_of hands place) card ≡ true →
    is_held hands card ≡ true
unfolding is_held
is_held-from hands card North held = or_left (set.contains hands.north card) _ held
is_held-from hands card East held =
    or_right (set.contains hands.north card) _ (or_left (set.contains hands.east card) _ held)
is_held-from hands card South held =
    or_right (set.contains hands.north card) _
    (or_right (set.contains hands.east card) _
    (or_left (set.contains hands.south card) (set.contains hands.west card) held))
is_held-from hands card West held =
    or_right (set.contains hands.north card) _
    (or_right (set.contains hands.east card) _
    (or_right (set.contains hands.south card) (set.contains hands.west card) held))

held_by : (hands : Hands) (card : Card) → is_held hands card ≡ true →
    (place : Place) × (set.contains (hand_of hands place) card ≡ true)
unfolding is_held
held_by hands card held = elim (or_cases _ _ held) [
  | inl n ↦ (North, n)
  | inr rest ↦ elim (or_cases _ _ rest) [
    | inl e ↦ (East, e)
    | inr rest ↦ elim (or_cases _ _ rest) [ inl s ↦ (South, s) | inr w ↦ (West, w) ]
  ]
]

pub true_pattern : (entry : Remembered) (p : Position) (known : Cards) → IsApart p.hands → Matches entry p →
    ((suit : Suit) → IsReach known (holding p.hands suit) (tops_of entry suit).count) →
    IsFound p entry.target known entry.holds → IsTruePattern entry
true_pattern entry p known apart matches reach found q more matches' top_cards ownership owned tight =
    let kept : Cards = set.retain known (is_held p.hands) in
    let both : (card : Card) → set.contains kept card ≡ (set.contains known card && is_held p.hands card) =
    λ card. in_kept card in
    partition (λ suit. (tops_of entry suit).count) p q kept more entry.target entry.holds apart
    (owned_apart ownership q owned)
    (record {
      same_tops = λ suit.
          let one = (matches.suits suit).lengths ∙ sym (matches'.suits suit).lengths in
          let long = (reach suit).within in
          let lengths = same_length p.hands q.hands suit one in
          tops_from_digits (tops_of entry suit).count (holding p.hands suit) (holding q.hands suit) long (omega arith)
          ((matches.suits suit).owners ∙ sym (matches'.suits suit).owners);
      same_lengths = λ suit place. same_many p.hands q.hands suit place ((matches.suits suit).lengths
          ∙ sym (matches'.suits suit).lengths);
    })
    (matches'.strain ∙ sym matches.strain) (matches'.leader ∙ sym matches.leader) matches.table matches'.table
    (matches.left ∙ sym matches'.left)
    (λ card k.
    let parts = and_parts _ _ (sym (both card) ∙ k) in
    let held = held_by p.hands card parts.1 in
    (reach card.suit).reach card parts.0 (listed_top p.hands apart held.0 card held.1))
    top_cards
    (λ card k. held_by p.hands card (and_parts _ _ (sym (both card) ∙ k)).1)
    (held_only p entry.target known kept entry.holds matches.table (λ card place held k. both card
    ∙ and_from _ _ k (is_held-from p.hands card place held)) found)
    ownership owned tight
  where
    in_kept : (card : Card) → set.contains (set.retain known (is_held p.hands)) card
        ≡ (set.contains known card && is_held p.hands card)
    in_kept card = set.contains-retain known (is_held p.hands) card
        (λ x e. ap (is_held p.hands) (sym (card_cmp-IsAntisymmetric card x e)))

pub has_tops : (tops : SuitTops) (pattern : SuitPattern) (held : List Held) → IsPatternOf pattern held →
    pattern.owners % 2 ^ (2 * tops.count) ≡ tops.owners →
    pattern.lengths ≡ tops.lengths → HasTops tops held
has_tops tops pattern held is owners lengths = record {
  owners = ap (λ n. n % 4 ^ tops.count) (sym is.owners) ∙ sym (low_digits_four pattern.owners tops.count) ∙ owners;
  lengths = sym is.lengths ∙ lengths;
}

pub each_suit : (P : Suit → Type 0) → P Spades → P Hearts → P Diamonds → P Clubs → (suit : Suit) → P suit
each_suit P a b c d Spades = a
each_suit P a b c d Hearts = b
each_suit P a b c d Diamonds = c
each_suit P a b c d Clubs = d

-- the four sets of top cards together
pub top_cards_in : (entry : Remembered) (q : Position) (a b c d all : Cards) →
    ((card : Card) → IsTop entry.spades.count (holding q.hands Spades) card → set.contains a card ≡ true) →
    ((card : Card) → IsTop entry.hearts.count (holding q.hands Hearts) card → set.contains b card ≡ true) →
    ((card : Card) → IsTop entry.diamonds.count (holding q.hands Diamonds) card → set.contains c card ≡ true) →
    ((card : Card) → IsTop entry.clubs.count (holding q.hands Clubs) card → set.contains d card ≡ true) →
    all ≡ set.union (set.union a b) (set.union c d) → HasTopCards entry q all
top_cards_in entry q a b c d all in_a in_b in_c in_d e card top =
    each_suit (λ suit. IsTop (tops_of entry suit).count (holding q.hands suit) card → set.contains all card ≡ true)
    (λ t. in_first _ _ _ e card (in_first a b _ refl card (in_a card t)))
    (λ t. in_first _ _ _ e card (in_second a b _ refl card (in_b card t)))
    (λ t. in_second _ _ _ e card (in_first c d _ refl card (in_c card t)))
    (λ t. in_second _ _ _ e card (in_second c d _ refl card (in_d card t)))
    card.suit top

pub apart_without : (hands : Hands) (card : Card) → IsApart hands → IsApart (without hands card)
apart_without hands card apart x y other held held' =
    apart x y other (without_had hands card other x held).0 (without_had hands card other y held').0

-- what holds of more tricks holds of fewer, and what is refused for fewer is refused for more
pub found_for : (p : Position) (target other : ℕ) (known : Cards) (answer : Bool) → (answer ≡ true → other ≤ target) →
    (answer ≡ false → target ≤ other) →
    IsFound p target known answer → IsFound p other known answer
found_for p target other known true fewer more found ownership owned tight name hands renaming names =
    let far = leb-true target _ (found ownership owned tight name hands renaming names) in
    let less = fewer refl in
    le-leb other _ (omega arith)
found_for p target other known false fewer more found ownership owned tight name hands renaming names =
    let short = leb-false target _ (found ownership owned tight name hands renaming names) in
    let over = more refl in
    lt-leb other _ (omega arith)

-- the same of hands that are equal
pub tops_at : (held hands : Hands) (suit : Suit) (count : ℕ) (tops : Cards) → held ≡ hands →
    ((card : Card) → IsTop count (holding held suit) card → set.contains tops card ≡ true) →
    (card : Card) → IsTop count (holding hands suit) card → set.contains tops card ≡ true
tops_at held hands suit count tops same each =
    subst (λ h. (card : Card) → IsTop count (holding h suit) card → set.contains tops card ≡ true) same each

-- what is remembered of a position is true of its pattern
pub true_entry : (entry : Remembered) (p : Position) (hands : Hands) (known : Cards) → hands ≡ p.hands → IsApart hands →
    entry.strain ≡ p.strain → entry.leader ≡ p.leader → p.table ≡ [] → cards_left p ≡ 4 * entry.tricks →
    ((suit : Suit) → HasTops (tops_of entry suit) (holding hands suit)) →
    ((suit : Suit) → IsReach known (holding hands suit) (tops_of entry suit).count) →
    IsFound p entry.target known entry.holds → IsTruePattern entry
true_entry entry p hands known same apart strain leader table left tops reach found =
    true_pattern entry p known (subst IsApart same apart)
    (record {
      strain = sym strain;
      leader = sym leader;
      table = table;
      left = left;
      suits = subst (λ h. (suit : Suit) → HasTops (tops_of entry suit) (holding h suit)) same tops;
    })
    (subst (λ h. (suit : Suit) → IsReach known (holding h suit) (tops_of entry suit).count) same reach) found
