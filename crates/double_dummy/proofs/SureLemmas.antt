-- Sure tricks: what the cards that are counted have to be.
use Rattle.std.proofs.Common.{
  ◌≡◌,
  ◌≢◌,
  ◌⊎◌,
  ℕ,
  ◌-◌,
  ◌<◌,
  ◌≤◌,
  Bool,
  true,
  false,
  [],
  ◌∷◌,
  refl,
  sym,
  ap,
  ◌∙◌,
  subst,
  inl,
  inr,
  arith,
}
use Rattle.std.specs.Prelude.{◌&&◌, Option, Some, nat_eq, nat_lt}
use Rattle.std.proofs.lemmas.Bool.{and_from, and_parts, cases_Bool, cases_lt, eq-eqb, false_from_ne_true, lt-ltb, ltb-true, or_cases, true≢false}
use Rattle.std.specs.FinSet as set
use Rattle.cards.specs.declared.card.Card.{Card}
use Rattle.cards.specs.declared.rank.Rank.TheVariants.{Ace}
use Rattle.cards.specs.Card.{number_in_pack}
use Rattle.cards.specs.CardBits.{card_cmp_total, same_number}
use Rattle.cards.specs.Cards.{AreDisjoint, Cards}
use Rattle.cards.specs.Hands.{Hands, hand_of}
use Rattle.cards.specs.Rank.{height}
use Rattle.table_terms.specs.declared.suit.Suit.{Suit}
use Rattle.table_terms.specs.declared.place.Place.{Place}
use Rattle.table_terms.specs.declared.place.Place.TheVariants.{North, East, South, West}
use Rattle.table_terms.specs.declared.side.Side.{Side}
use Rattle.table_terms.specs.Suit.{suit_number}
use Rattle.table_terms.specs.Place.{left_of, partner_of, side_of}
use Rattle.table_terms.specs.Strain.{trump_of}
use Rattle.cards.specs.Play.{IsPosition, Position, is_of, is_trump, legal_of, strength, strength_by}
use Rattle.double_dummy.proofs.RunLemmas.{none_in}
use Rattle.position_patterns.proofs.SetLemmas.{in_first, in_second, just_inserted, still_inserted, inserted}
use Rattle.double_dummy_laws.proofs.HandLemmas.{follows_legal, in_suit, legal_follows}
use Rattle.double_dummy_laws.proofs.BestTrumpLemmas.{opponent_cases, opponents, trump_beats}
use Rattle.double_dummy_laws.proofs.SharedTrumpNameLemmas.{shared_found}
use Rattle.double_dummy_laws.proofs.SureTrickLemmas.{guarded_found, long_found, winning_found}
use Rattle.double_dummy_laws.proofs.WinnerLemmas.{both_of, both_trumps, height_below, same_suit, same_trump}
use Rattle.double_dummy_laws.specs.Found.{IsFound, wanted_answer}
use Rattle.double_dummy_laws.specs.SureTricks.{AreEnough, IsGuarded, IsWinningCard, IsWinningCardKnown}
use Rattle.double_dummy.specs.Search.{MayNotRuff}
use Rattle.double_dummy.proofs.SearchLemmas.{some_in}

-- a set's cards are among another's
abbrev pub AreAmong : Cards → Cards → Type 0
AreAmong some cards = (card : Card) → set.contains some card ≡ true → set.contains cards card ≡ true

-- none of the others has a card of the suit of one of these
abbrev pub AreAlone : Cards → Cards → Type 0
AreAlone some others = (card other : Card) → set.contains some card ≡ true → set.contains others other ≡ true →
    other.suit ≢ card.suit

-- these are higher than the others' cards of their suits
abbrev pub AreAbove : Cards → Cards → Type 0
AreAbove some others = (card other : Card) → set.contains some card ≡ true → set.contains others other ≡ true →
    other.suit ≡ card.suit → height other.rank < height card.rank

pub either : (s t u : Cards) (card : Card) → u ≡ set.union s t → set.contains u card ≡ true →
    (set.contains s card ≡ true) ⊎ (set.contains t card ≡ true)
either s t u card is held =
    or_cases _ _ (sym (ap (λ v. set.contains v card) is ∙ set.contains-union card_cmp_total s t card) ∙ held)

pub among_both : (s t u cards : Cards) → u ≡ set.union s t → AreAmong s cards → AreAmong t cards → AreAmong u cards
among_both s t u cards is first second card held =
    elim (either s t u card is held) [ inl h ↦ first card h | inr h ↦ second card h ]

pub alone_both : (s t u others : Cards) → u ≡ set.union s t → AreAlone s others → AreAlone t others → AreAlone u others
alone_both s t u others is first second card other held there =
    elim (either s t u card is held) [ inl h ↦ first card other h there | inr h ↦ second card other h there ]

pub above_both : (s t u others : Cards) → u ≡ set.union s t → AreAbove s others → AreAbove t others → AreAbove u others
above_both s t u others is first second card other held there same =
    elim (either s t u card is held) [ inl h ↦ first card other h there same | inr h ↦ second card other h there same ]

-- a card of a suit among others
pub of_suit : (cards suited : Cards) (suit : Suit) (card : Card) → suited ≡ set.retain cards (is_of suit) →
    set.contains suited card ≡ true → (set.contains cards card ≡ true) × (is_of suit card ≡ true)
of_suit cards suited suit card is held =
    and_parts _ _ (sym (in_suit cards suit card) ∙ ap (λ s. set.contains s card) (sym is) ∙ held)

pub in_of_suit : (cards suited : Cards) (suit : Suit) (card : Card) → suited ≡ set.retain cards (is_of suit) →
    set.contains cards card ≡ true → is_of suit card ≡ true → set.contains suited card ≡ true
in_of_suit cards suited suit card is held same =
    ap (λ s. set.contains s card) is ∙ in_suit cards suit card ∙ and_from _ _ held same

pub also_of : (suit : Suit) (card other : Card) → is_of suit card ≡ true → other.suit ≡ card.suit →
    is_of suit other ≡ true
also_of suit card other is same = ap (λ s. nat_eq (suit_number suit) (suit_number s)) same ∙ is

-- where the others have no card of the suit
pub alone_in : (mine others held against : Cards) (suit : Suit) → held ≡ set.retain mine (is_of suit) →
    against ≡ set.retain others (is_of suit) → against ≡ set.empty → AreAlone held others
alone_in mine others held against suit held_is against_is none card other has there same =
    let own = of_suit mine held suit card held_is has in
    none_in against other none
    (in_of_suit others against suit other against_is there (also_of suit card other own.1 same))

-- the cards from one up
pub above_in : (mine others held against reach both : Cards) (suit : Suit) (lowest : Card) →
    held ≡ set.retain mine (is_of suit) → against ≡ set.retain others (is_of suit) →
    ((card : Card) → set.contains both card ≡ (set.contains held card && set.contains reach card)) →
    ((card : Card) → set.contains reach card ≡ true →
    (card.suit ≡ lowest.suit) × (height lowest.rank ≤ height card.rank)) →
    ((card : Card) → card.suit ≡ lowest.suit → height lowest.rank ≤ height card.rank →
    set.contains reach card ≡ true) → AreDisjoint against reach → AreAbove both others
above_in mine others held against reach both suit lowest held_is against_is both_is up all apart card other has there
    same =
    let parts = and_parts _ _ (sym (both_is card) ∙ has) in
    let own = of_suit mine held suit card held_is parts.0 in
    let high = up card parts.1 in
    let opposed = in_of_suit others against suit other against_is there (also_of suit card other own.1 same) in
    elim (cases_lt (height other.rank) (height lowest.rank)) [
      | inl less ↦ let more = high.1 in omega arith
      | inr reaches ↦ absurd (true≢false (sym (all other (same ∙ high.0) reaches) ∙ apart other opposed))
    ]

pub among_common : (mine held reach both : Cards) (suit : Suit) → held ≡ set.retain mine (is_of suit) →
    ((card : Card) → set.contains both card ≡ (set.contains held card && set.contains reach card)) →
    AreAmong both mine
among_common mine held reach both suit held_is both_is card has =
    (of_suit mine held suit card held_is (and_parts _ _ (sym (both_is card) ∙ has)).0).0

abbrev pub ace_of : Suit → Card
ace_of suit = record { suit = suit; rank = Ace }

-- the ace alone
pub from_ace : (lowest ace : Card) (cards : Cards) → ace.suit ≡ lowest.suit → ace.rank ≡ Ace →
    number_in_pack ace ≤ number_in_pack lowest →
    ((other : Card) → ((set.contains cards other ≡ true) → (other ≡ ace)) ×
    ((other ≡ ace) → set.contains cards other ≡ true)) →
    ((card : Card) → set.contains cards card ≡ true →
    (card.suit ≡ lowest.suit) × (height lowest.rank ≤ height card.rank)) ×
    ((card : Card) → card.suit ≡ lowest.suit → height lowest.rank ≤ height card.rank →
    set.contains cards card ≡ true)
from_ace lowest ace cards suit rank no_lower just =
    let numbers = ap suit_number suit in
    let top = ap height rank in
    let small = height_below lowest.rank in (
      λ card held.
          let is = (just card).0 held in
          (ap (λ c. c.suit) is ∙ suit, (let e = ap (λ c. height c.rank) is in omega arith)),
      λ card same high.
          let below = height_below card.rank in
          let of_suit = ap suit_number same in
          (just card).1 (same_number card ace (omega arith)),
    )

-- from a card to the ace
pub from_up : (lowest ace : Card) (inner some cards : Cards) → ace.suit ≡ lowest.suit → ace.rank ≡ Ace →
    number_in_pack lowest < number_in_pack ace →
    ((card : Card) → set.contains inner card ≡
    (nat_lt (number_in_pack lowest) (number_in_pack card) && nat_lt (number_in_pack card) (number_in_pack ace))) →
    some ≡ set.insert inner lowest → cards ≡ set.insert some ace →
    ((card : Card) → set.contains cards card ≡ true →
    (card.suit ≡ lowest.suit) × (height lowest.rank ≤ height card.rank)) ×
    ((card : Card) → card.suit ≡ lowest.suit → height lowest.rank ≤ height card.rank →
    set.contains cards card ≡ true)
from_up lowest ace inner some cards suit rank order inner_is some_is cards_is =
    let numbers = ap suit_number suit in
    let top = ap height rank in
    let small = height_below lowest.rank in (
      λ card held. elim (just_inserted some cards ace card cards_is held) [
        | inl is ↦ (ap (λ c. c.suit) is ∙ suit, (let e = ap (λ c. height c.rank) is in omega arith))
        | inr before ↦ elim (just_inserted inner some lowest card some_is before) [
          | inl is ↦ (ap (λ c. c.suit) is, (let e = ap (λ c. height c.rank) is in omega arith))
          | inr between ↦
              let parts = and_parts _ _ (sym (inner_is card) ∙ between) in
              let above : number_in_pack lowest < number_in_pack card = ltb-true _ _ parts.0 in
              let under : number_in_pack card < number_in_pack ace = ltb-true _ _ parts.1 in
              let below = height_below card.rank in
              (same_suit card.suit lowest.suit (omega arith), omega arith)
        ]
      ],
      λ card same high.
          let below = height_below card.rank in
          let of_suit = ap suit_number same in
          elim (cases_lt (number_in_pack lowest) (number_in_pack card)) [
            | inr no_higher ↦ still_inserted some cards ace card cards_is
                (subst (λ c. set.contains some c ≡ true) (sym (same_number card lowest (omega arith)))
                (inserted inner some lowest some_is))
            | inl above ↦ elim (cases_lt (number_in_pack card) (number_in_pack ace)) [
              | inl under ↦ still_inserted some cards ace card cards_is (still_inserted inner some lowest card some_is
                  (inner_is card ∙ and_from _ _ (lt-ltb (number_in_pack lowest) (number_in_pack card) above)
                  (lt-ltb (number_in_pack card) (number_in_pack ace) under)))
              | inr last ↦ subst (λ c. set.contains cards c ≡ true) (sym (same_number card ace (omega arith)))
                  (inserted some cards ace cards_is)
            ]
          ],
    )

-- who plays beside whom
pub other_cases : (place leader : Place) → place ≢ leader → (place ≡ left_of leader)
    ⊎ ((place ≡ left_of (left_of leader)) ⊎ (place ≡ left_of (left_of (left_of leader))))
other_cases North North ne = absurd (ne refl)
other_cases North East ne = inr (inr refl)
other_cases North South ne = inr (inl refl)
other_cases North West ne = inl refl
other_cases East North ne = inl refl
other_cases East East ne = absurd (ne refl)
other_cases East South ne = inr (inr refl)
other_cases East West ne = inr (inl refl)
other_cases South North ne = inr (inl refl)
other_cases South East ne = inl refl
other_cases South South ne = absurd (ne refl)
other_cases South West ne = inr (inr refl)
other_cases West North ne = inr (inr refl)
other_cases West East ne = inr (inl refl)
other_cases West South ne = inl refl
other_cases West West ne = absurd (ne refl)

pub of_opponents : (hands : Hands) (holder left right : Place) (a b all : Cards) → left ≡ left_of holder →
    right ≡ left_of (left_of left) → a ≡ hand_of hands left → b ≡ hand_of hands right → all ≡ set.union a b →
    (place : Place) (card : Card) → side_of place ≢ side_of holder →
    set.contains (hand_of hands place) card ≡ true → set.contains all card ≡ true
of_opponents hands holder left right a b all left_is right_is a_is b_is all_is place card ne held =
    elim (opponent_cases place holder ne) [
      | inl is ↦ in_first a b all all_is card
          (ap (λ s. set.contains s card) (a_is ∙ ap (hand_of hands) (left_is ∙ sym is)) ∙ held)
      | inr is ↦ in_second a b all all_is card
          (ap (λ s. set.contains s card)
          (b_is ∙ ap (hand_of hands) (right_is ∙ ap (λ x. left_of (left_of x)) left_is ∙ sym is)) ∙ held)
    ]

pub of_others : (hands : Hands) (leader left partner right : Place) (a b c both all : Cards) →
    left ≡ left_of leader → partner ≡ left_of left → right ≡ left_of partner → a ≡ hand_of hands left →
    b ≡ hand_of hands partner → c ≡ hand_of hands right → both ≡ set.union b c → all ≡ set.union a both →
    (place : Place) (card : Card) → place ≢ leader →
    set.contains (hand_of hands place) card ≡ true → set.contains all card ≡ true
of_others hands leader left partner right a b c both all left_is partner_is right_is a_is b_is c_is both_is all_is
    place card ne held =
    elim (other_cases place leader ne) [
      | inl is ↦ in_first a both all all_is card
          (ap (λ s. set.contains s card) (a_is ∙ ap (hand_of hands) (left_is ∙ sym is)) ∙ held)
      | inr (inl is) ↦ in_second a both all all_is card (in_first b c both both_is card
          (ap (λ s. set.contains s card)
          (b_is ∙ ap (hand_of hands) (partner_is ∙ ap left_of left_is ∙ sym is)) ∙ held))
      | inr (inr is) ↦ in_second a both all all_is card (in_second b c both both_is card
          (ap (λ s. set.contains s card)
          (c_is ∙ ap (hand_of hands) (right_is ∙ ap left_of (partner_is ∙ ap left_of left_is) ∙ sym is)) ∙ held))
    ]

-- no trump is among these
pub no_trumps : (trump : Option Suit) (suit : Suit) (cards suited : Cards) → trump ≡ Some suit →
    suited ≡ set.retain cards (is_of suit) → suited ≡ set.empty → (card : Card) → set.contains cards card ≡ true →
    is_trump trump card ≡ false
no_trumps trump suit cards suited trump_is suited_is none card held =
    ap (λ t. is_trump t card) trump_is ∙ never (is_of suit card) refl
  where
    never : (b : Bool) → is_of suit card ≡ b → is_of suit card ≡ false
    never false e = e
    never true e = absurd (none_in suited card none (in_of_suit cards suited suit card suited_is held e))

-- a player's trumps, and the opponents' that may beat one of them
pub trumps_answer : (p : Position) (trump : Suit) (holder : Place) (side side' : Side)
    (hand mine others against counted beaters named known : Cards) (target wanted : ℕ) (holds : Bool) →
    IsPosition p → p.table ≡ [] → trump_of p.strain ≡ Some trump → side ≡ side_of holder → side' ≡ side_of holder →
    hand ≡ hand_of p.hands holder → mine ≡ set.retain hand (is_of trump) →
    ((place : Place) (card : Card) → side_of place ≢ side_of holder →
    set.contains (hand_of p.hands place) card ≡ true → set.contains others card ≡ true) →
    against ≡ set.retain others (is_of trump) → AreAmong counted mine →
    ((card other : Card) → set.contains counted card ≡ true → set.contains against other ≡ true →
    (set.contains beaters other ≡ true) ⊎ ((height other.rank < height card.rank) × (set.contains named card ≡ true))) →
    ((tricks : ℕ) → wanted ≤ tricks → AreEnough side tricks p target) →
    wanted ≤ set.len counted - set.len beaters → holds ≡ wanted_answer side' → known ≡ named →
    IsFound p target known holds
trumps_answer p trump holder side side' hand mine others against counted beaters named known target wanted holds valid
    none trump_is side_is side_is' hand_is mine_is others_has against_is counted_in beats enough many holds_is known_is =
    let own = λ (card : Card) (held : set.contains counted card ≡ true).
    of_suit hand mine trump card mine_is (counted_in card held) in
    let opposed = λ (card other : Card) (place : Place) (held : set.contains counted card ≡ true)
    (ne : side_of place ≢ side_of holder) (there : set.contains (hand_of p.hands place) other ≡ true)
    (is : is_of trump other ≡ true).
    beats card other held (in_of_suit others against trump other against_is (others_has place other ne there) is) in
    subst (λ k. IsFound p target k holds) (sym known_is)
    (subst (λ b. IsFound p target named b) (sym (holds_is ∙ ap wanted_answer side_is'))
    (long_found p holder counted beaters named target valid none (record {
      held = λ card held. ap (λ s. set.contains s card) (sym hand_is) ∙ (own card held).0;
      trumps = λ card held. ap (λ t. is_trump t card) trump_is ∙ (own card held).1;
      lower = λ card other place held ne there is.
          elim (opposed card other place held ne there (sym (ap (λ t. is_trump t other) trump_is) ∙ is)) [
            | inl counts ↦ inl counts
            | inr less ↦ inr less.0
          ];
    })
    (λ card other place held ne there same.
    elim (opposed card other place held ne there (also_of trump card other (own card held).1 same)) [
      | inl counts ↦ inl counts
      | inr less ↦ inr less.1
    ])
    (subst (λ s. AreEnough s (set.len counted - set.len beaters) p target) side_is
    (enough (set.len counted - set.len beaters) many))))

-- of two players' trumps those from one up
pub from_one_up : (mine against reach counted beaters : Cards) (hand others : Cards) (trump : Suit) (lowest : Card) →
    mine ≡ set.retain hand (is_of trump) → against ≡ set.retain others (is_of trump) →
    ((card : Card) → set.contains reach card ≡ true →
    (card.suit ≡ lowest.suit) × (height lowest.rank ≤ height card.rank)) →
    ((card : Card) → card.suit ≡ lowest.suit → height lowest.rank ≤ height card.rank →
    set.contains reach card ≡ true) →
    ((card : Card) → set.contains counted card ≡ (set.contains mine card && set.contains reach card)) →
    ((card : Card) → set.contains beaters card ≡ (set.contains against card && set.contains reach card)) →
    (card other : Card) → set.contains counted card ≡ true → set.contains against other ≡ true →
    (set.contains beaters other ≡ true) ⊎ ((height other.rank < height card.rank) × (set.contains counted card ≡ true))
from_one_up mine against reach counted beaters hand others trump lowest mine_is against_is up all counted_is beaters_is
    card other held there =
    let parts = and_parts _ _ (sym (counted_is card) ∙ held) in
    let high = up card parts.1 in
    let same = both_of trump other card (of_suit others against trump other against_is there).1
    (of_suit hand mine trump card mine_is parts.0).1 in
    elim (cases_lt (height other.rank) (height lowest.rank)) [
      | inl less ↦ inr (omega (arith, less, high.1), held)
      | inr reaches ↦ inl (beaters_is other ∙ and_from _ _ there (all other (same ∙ high.0) reaches))
    ]

-- the trumps of both partners from one up, no more of them than one of the two has trumps
pub shared_answer : (p : Position) (trump : Suit) (holder partner : Place) (side side' : Side)
    (hand beside all mine both others against counted beaters known : Cards) (target wanted : ℕ) (holds : Bool) →
    IsPosition p → p.table ≡ [] → trump_of p.strain ≡ Some trump → side ≡ side_of holder → side' ≡ side_of holder →
    partner ≡ partner_of holder → hand ≡ hand_of p.hands holder → beside ≡ hand_of p.hands partner →
    all ≡ set.union hand beside → mine ≡ set.retain hand (is_of trump) → both ≡ set.retain all (is_of trump) →
    ((place : Place) (card : Card) → side_of place ≢ side_of holder →
    set.contains (hand_of p.hands place) card ≡ true → set.contains others card ≡ true) →
    against ≡ set.retain others (is_of trump) → AreAmong counted both →
    ((card other : Card) → set.contains counted card ≡ true → set.contains against other ≡ true →
    (set.contains beaters other ≡ true)
    ⊎ ((height other.rank < height card.rank) × (set.contains counted card ≡ true))) →
    ((tricks : ℕ) → wanted ≤ tricks → AreEnough side tricks p target) → set.len counted ≤ set.len mine →
    wanted ≤ set.len counted - set.len beaters → holds ≡ wanted_answer side' → known ≡ counted →
    IsFound p target known holds
shared_answer p trump holder partner side side' hand beside all mine both others against counted beaters known target
    wanted holds valid none trump_is side_is side_is' partner_is hand_is beside_is all_is mine_is both_is others_has
    against_is counted_in beats enough long many holds_is known_is =
    let own = λ (card : Card) (held : set.contains counted card ≡ true).
    of_suit all both trump card both_is (counted_in card held) in
    let opposed = λ (card other : Card) (place : Place) (held : set.contains counted card ≡ true)
    (ne : side_of place ≢ side_of holder) (there : set.contains (hand_of p.hands place) other ≡ true)
    (is : is_of trump other ≡ true).
    beats card other held (in_of_suit others against trump other against_is (others_has place other ne there) is) in
    let trumps : mine ≡ set.retain (hand_of p.hands holder) (is_trump (trump_of p.strain)) =
    mine_is ∙ ap (λ s. set.retain s (is_of trump)) hand_is
    ∙ ap (λ t. set.retain (hand_of p.hands holder) (is_trump t)) (sym trump_is) in
    subst (λ k. IsFound p target k holds) (sym known_is)
    (subst (λ b. IsFound p target counted b) (sym (holds_is ∙ ap wanted_answer side_is'))
    (shared_found p holder counted beaters counted target valid none (record {
      held = λ card held.
          elim (either hand beside all card all_is (own card held).0) [
            | inl first ↦ inl (ap (λ s. set.contains s card) (sym hand_is) ∙ first)
            | inr second ↦ inr (ap (λ s. set.contains s card)
                (sym (beside_is ∙ ap (hand_of p.hands) partner_is)) ∙ second)
          ];
      trumps = λ card held. ap (λ t. is_trump t card) trump_is ∙ (own card held).1;
      lower = λ card other place held ne there is.
          elim (opposed card other place held ne there (sym (ap (λ t. is_trump t other) trump_is) ∙ is)) [
            | inl counts ↦ inl counts
            | inr less ↦ inr less.0
          ];
      long = subst (λ s. set.len counted ≤ set.len s) trumps long;
    })
    (λ card other place held ne there same.
    elim (opposed card other place held ne there (also_of trump card other (own card held).1 same)) [
      | inl counts ↦ inl counts
      | inr less ↦ inr less.1
    ])
    (subst (λ s. AreEnough s (set.len counted - set.len beaters) p target) side_is
    (enough (set.len counted - set.len beaters) many))))

-- a player's highest trump, and another one
pub is_guarded : (p : Position) (trump : Suit) (holder right : Place)
    (hand mine behind before others against reach above : Cards) (best second guard : Card) →
    trump_of p.strain ≡ Some trump → hand ≡ hand_of p.hands holder → mine ≡ set.retain hand (is_of trump) →
    right ≡ left_of (partner_of holder) → behind ≡ hand_of p.hands right → before ≡ set.retain behind (is_of trump) →
    set.contains before best ≡ true → set.contains mine guard ≡ true → set.contains mine second ≡ true →
    number_in_pack guard < number_in_pack second →
    ((place : Place) (card : Card) → side_of place ≢ side_of holder →
    set.contains (hand_of p.hands place) card ≡ true → set.contains others card ≡ true) →
    against ≡ set.retain others (is_of trump) →
    ((card : Card) → card.suit ≡ second.suit → height second.rank ≤ height card.rank →
    set.contains reach card ≡ true) →
    ((card : Card) → set.contains above card ≡ (set.contains against card && set.contains reach card)) →
    ((card : Card) → set.contains above card ≡ true → best ≡ card) → IsGuarded p holder best second guard
is_guarded p trump holder right hand mine behind before others against reach above best second guard trump_is hand_is
    mine_is right_is behind_is before_is there has_guard has_second order others_has against_is all above_is alone =
    let first = of_suit hand mine trump second mine_is has_second in
    let low = of_suit hand mine trump guard mine_is has_guard in
    record {
      held = ap (λ s. set.contains s second) (sym hand_is) ∙ first.0;
      guarded = ap (λ s. set.contains s guard) (sym hand_is) ∙ low.0;
      apart = λ e. omega (arith, order, ap number_in_pack e);
      trump = ap (λ t. is_trump t second) trump_is ∙ first.1;
      guard_trump = ap (λ t. is_trump t guard) trump_is ∙ low.1;
      right = ap (λ place. set.contains (hand_of p.hands place) best) (sym right_is)
          ∙ ap (λ s. set.contains s best) (sym behind_is) ∙ (of_suit behind before trump best before_is there).0;
      higher = λ other place ne held is not_best.
          let same : is_of trump other ≡ true = sym (ap (λ t. is_trump t other) trump_is) ∙ is in
          let opposed = in_of_suit others against trump other against_is (others_has place other ne held) same in
          elim (cases_lt (height other.rank) (height second.rank)) [
            | inl less ↦ less
            | inr reaches ↦ absurd (not_best (sym (alone other (above_is other
                ∙ and_from _ _ opposed (all other (both_of trump other second same first.1) reaches)))))
          ];
    }

pub partners : (place : Place) → side_of (partner_of place) ≡ side_of place
partners North = refl
partners East = refl
partners South = refl
partners West = refl

pub guarded_answer : (p : Position) (leader next holder : Place) (side side' : Side) (second : Card)
    (just known : Cards) (target wanted : ℕ) (holds : Bool) → IsPosition p → p.table ≡ [] → leader ≡ p.leader →
    next ≡ left_of leader → side_of holder ≡ side_of next → side ≡ side_of next → side' ≡ side_of next →
    (best : Card) × ((guard : Card) × IsGuarded p holder best second guard) → set.contains just second ≡ true →
    ((tricks : ℕ) → wanted ≤ tricks → AreEnough side tricks p target) → wanted ≤ 1 →
    holds ≡ wanted_answer side' → known ≡ just → IsFound p target known holds
guarded_answer p leader next holder side side' second just known target wanted holds valid none leader_is next_is same
    side_is side_is' (best, (guard, is)) in_just enough few holds_is known_is =
    subst (λ k. IsFound p target k holds) (sym known_is)
    (subst (λ b. IsFound p target just b) (sym (holds_is ∙ ap wanted_answer (side_is' ∙ sym same)))
    (guarded_found p holder best second guard just target valid none
    (λ e. opponents p.leader (sym (e ∙ same ∙ ap side_of (next_is ∙ ap left_of leader_is)))) is in_just
    (subst (λ s. AreEnough s 1 p target) (side_is ∙ sym same) (enough 1 few))))

-- of two cards of a suit the higher one is the stronger
stronger : (trump : Option Suit) (led : Suit) (other card : Card) → is_of led card ≡ true → other.suit ≡ card.suit →
    height other.rank < height card.rank → strength trump led other < strength trump led card
stronger trump led other card is same lower =
    subst (λ t. strength_by t (is_of led other) (height other.rank) < strength trump led card)
    (sym (same_trump trump other card same))
    (by_height (is_trump trump card) (is_of led other) (is_of led card) _ _ is lower)
  where
    by_height : (t lo lc : Bool) (ho hc : ℕ) → lc ≡ true → ho < hc → strength_by t lo ho < strength_by t lc hc
    by_height true lo lc ho hc is less = omega arith
    by_height false true true ho hc is less = omega arith
    by_height false false true ho hc is less = omega arith
    by_height false lo false ho hc is less = absurd (true≢false (sym is))

-- a discard is weaker than a card of the suit
discarded : (trump : Option Suit) (led : Suit) (other card : Card) → is_of led card ≡ true → is_of led other ≡ false →
    is_trump trump other ≡ false → strength trump led other < strength trump led card
discarded trump led other card is apart no_trump =
    subst (λ l. strength_by (is_trump trump other) l (height other.rank) < strength trump led card) (sym apart)
    (subst (λ t. strength_by t false (height other.rank) < strength trump led card) (sym no_trump)
    (counts (is_trump trump card) (is_of led card) (height card.rank) is))
  where
    counts : (t l : Bool) (h : ℕ) → l ≡ true → 0 < strength_by t l h
    counts true l h e = omega arith
    counts false true h e = omega arith
    counts false false h e = absurd (true≢false (sym e))

-- a higher card of the suit, and any trump of a hand without the suit, take the trick where third hand may not ruff
pub higher_wins : (p : Position) (led : Card) (holder : Place) (hand held third reach just : Cards) (card : Card) →
    side_of holder ≢ side_of p.leader → third ≡ hand_of p.hands (partner_of p.leader) → MayNotRuff p led third →
    hand ≡ hand_of p.hands holder → held ≡ set.retain hand (is_of led.suit) → set.contains held card ≡ true →
    number_in_pack led < number_in_pack card →
    ((other : Card) → other.suit ≡ card.suit → height card.rank ≤ height other.rank →
    set.contains reach other ≡ true) → AreDisjoint third reach → set.contains just card ≡ true →
    (card : Card) × (IsWinningCard p led holder card × IsWinningCardKnown p led card just)
higher_wins p led holder hand held third reach just card opponent third_is no_ruff hand_is held_is has order all apart
    in_just =
    let own = of_suit hand held led.suit card held_is has in
    let suits : led.suit ≡ card.suit = both_of led.suit led card (eq-eqb _ _ refl) own.1 in
    let numbers = ap suit_number suits in
    let small = height_below led.rank in
    let there = λ (other : Card) (may : set.contains (legal_of (hand_of p.hands (partner_of p.leader)) (led ∷ []))
    other ≡ true). subst (λ s. set.contains (legal_of s (led ∷ [])) other ≡ true) (sym third_is) may in (
      card,
      (
        record {
          opponent = opponent;
          may = follows_legal (hand_of p.hands holder) (led ∷ []) card
              (ap (λ s. set.contains s card) (sym hand_is) ∙ own.0) (inl own.1);
          first = stronger (trump_of p.strain) led.suit led card own.1 suits (omega arith);
          third = λ other may.
              let plays = there other may in
              let holds = (legal_follows third (led ∷ []) other plays).0 in
              elim (cases_Bool (is_of led.suit other)) [
                | inl same ↦
                    let alike : other.suit ≡ card.suit = both_of led.suit other card same own.1 in
                    elim (cases_lt (height other.rank) (height card.rank)) [
                      | inl less ↦ stronger (trump_of p.strain) led.suit other card own.1 alike less
                      | inr reaches ↦ absurd (true≢false (sym (all other alike reaches) ∙ apart other holds))
                    ]
                | inr differs ↦ elim (no_ruff other plays) [
                  | inl alike ↦ absurd (true≢false (sym (eq-eqb _ _ (ap suit_number (sym alike))) ∙ differs))
                  | inr no_trump ↦ discarded (trump_of p.strain) led.suit other card own.1 differs no_trump
                ]
              ];
        },
        record { first = λ _. in_just; third = λ _ _ _. in_just },
      ),
    )

pub ruff_wins : (p : Position) (trump : Suit) (led : Card) (holder : Place) (hand held trumps third known : Cards)
    (card : Card) → side_of holder ≢ side_of p.leader → third ≡ hand_of p.hands (partner_of p.leader) →
    MayNotRuff p led third → trump_of p.strain ≡ Some trump → hand ≡ hand_of p.hands holder →
    held ≡ set.retain hand (is_of led.suit) → held ≡ set.empty → trumps ≡ set.retain hand (is_of trump) →
    set.contains trumps card ≡ true →
    (card : Card) × (IsWinningCard p led holder card × IsWinningCardKnown p led card known)
ruff_wins p trump led holder hand held trumps third known card opponent third_is no_ruff trump_is hand_is held_is void
    trumps_is has =
    let own = of_suit hand trumps trump card trumps_is has in
    let is : is_trump (trump_of p.strain) card ≡ true = ap (λ t. is_trump t card) trump_is ∙ own.1 in
    let none = λ (other : Card) (holds : set.contains (hand_of p.hands holder) other ≡ true).
    false_from_ne_true (is_of led.suit other) (λ same. none_in held other void
    (in_of_suit hand held led.suit other held_is (ap (λ s. set.contains s other) hand_is ∙ holds) same)) in
    let mine = ap (λ s. set.contains s card) (sym hand_is) ∙ own.0 in
    let apart = λ (e : led.suit ≡ card.suit).
    true≢false (sym (eq-eqb _ _ (ap suit_number e)) ∙ none card mine) in
    let no_trump : (other : Card) →
    set.contains (legal_of (hand_of p.hands (partner_of p.leader)) (led ∷ [])) other ≡ true →
    is_trump (trump_of p.strain) other ≡ true → ⊥ = λ other may trump'.
    elim (no_ruff other (subst (λ s. set.contains (legal_of s (led ∷ [])) other ≡ true) (sym third_is) may)) [
      | inl alike ↦ apart (sym alike ∙ both_trumps (trump_of p.strain) other card trump' is)
      | inr never ↦ true≢false (sym trump' ∙ never)
    ] in (
      card,
      (
        record {
          opponent = opponent;
          may = follows_legal (hand_of p.hands holder) (led ∷ []) card mine (inr none);
          first = trump_beats (trump_of p.strain) led.suit led card is
              (λ trump'. absurd (apart (both_trumps (trump_of p.strain) led card trump' is)));
          third = λ other may. trump_beats (trump_of p.strain) led.suit other card is
              (λ trump'. absurd (no_trump other may trump'));
        },
        record {
          first = λ e. absurd (apart e);
          third = λ other may e. absurd (no_trump other may (same_trump (trump_of p.strain) other card e ∙ is));
        },
      ),
    )

-- a hand that follows suit, or has no trump, may not ruff
pub follows : (p : Position) (led : Card) (hand suited : Cards) → suited ≡ set.retain hand (is_of led.suit) →
    (suited ≡ set.empty → ⊥) → MayNotRuff p led hand
follows p led hand suited suited_is some other may =
    let facts = legal_follows hand (led ∷ []) other may in
    elim facts.1 [
      | inl same ↦ inl (both_of led.suit other led same (eq-eqb _ _ refl))
      | inr none ↦
          let one = some_in suited some in
          let own = of_suit hand suited led.suit one.0 suited_is one.1 in
          absurd (true≢false (sym own.1 ∙ none one.0 own.0))
    ]

pub winning_answer : (p : Position) (second holder : Place) (side side' : Side) (led : Card) (wins known : Cards)
    (target wanted : ℕ) (holds : Bool) → IsPosition p → p.table ≡ led ∷ [] → side_of holder ≡ side_of second →
    side ≡ side_of second → side' ≡ side_of second →
    (card : Card) × (IsWinningCard p led holder card × IsWinningCardKnown p led card wins) →
    ((tricks : ℕ) → wanted ≤ tricks → AreEnough side tricks p target) → wanted ≤ 1 →
    holds ≡ wanted_answer side' → known ≡ wins → IsFound p target known holds
winning_answer p second holder side side' led wins known target wanted holds valid table same side_is side_is'
    (card, (is, is_known)) enough few holds_is known_is =
    subst (λ k. IsFound p target k holds) (sym known_is)
    (subst (λ b. IsFound p target wins b) (sym (holds_is ∙ ap wanted_answer (side_is' ∙ sym same)))
    (winning_found p led holder card wins target valid table is is_known
    (subst (λ s. AreEnough s 1 p target) (side_is ∙ sym same) (enough 1 few))))
