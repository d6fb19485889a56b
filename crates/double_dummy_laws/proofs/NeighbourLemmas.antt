-- Neighbours are worth the same.
use Rattle.std.proofs.Common.{
  List,
  [],
  ◌∷◌,
  suc,
  ◌≡◌,
  ◌≢◌,
  ℕ,
  ◌<◌,
  true,
  refl,
  sym,
  ap,
  ◌∙◌,
  inl,
  inr,
  arith,
  List,
  [],
  ◌∷◌,
  suc,
}
use Rattle.std.specs.Prelude.{◌↔◌, All}
use Rattle.std.proofs.lemmas.Bool.{cases_order}
use Rattle.cards.specs.declared.card.Card.{Card}
use Rattle.cards.specs.CardBits.{same_number}
use Rattle.table_terms.specs.Suit.{suit_number}
use Rattle.cards.specs.Rank.{height}
use Rattle.cards.specs.Hands.{hand_of}
use Rattle.std.proofs.lemmas.List.Elements.{All-nil, All-cons}
use Rattle.std.specs.FinSet as set
use Rattle.cards.specs.Play.{IsPosition, Position, legal, to_play, after, cards_left}
use Rattle.double_dummy_laws.proofs.EqualCardsLemmas.{alike_worth}
use Rattle.double_dummy_laws.proofs.HandLemmas.{legal_follows}
use Rattle.double_dummy_laws.proofs.OwnershipLemmas.{owned_tight, tight, tight_tight}
use Rattle.double_dummy_laws.specs.Found.{IsOwned}
use Rattle.double_dummy_laws.specs.Neighbours.{AreNeighbours, IsBetween, IsRun}
use Rattle.double_dummy_laws.specs.Renaming.{Ownership}
use Rattle.double_dummy_laws.specs.Known.{IsLike}
use Rattle.double_dummy_laws.proofs.OwnerLemmas.{owners_of, owned_position, every_card_known}
use Rattle.double_dummy_laws.proofs.RenamingLemmas.{worth_in}
use Rattle.double_dummy_laws.proofs.CountLemmas.{left_after}
use Rattle.cards.specs.DoubleDummy.{worth}

-- of two numbers, a third one that is neither and not between them is above both or below both
pub same_side : (a b x : ℕ) → x ≢ a → x ≢ b → (a < x → x < b → ⊥) → (b < x → x < a → ⊥) →
    ((a < x) ↔ (b < x)) × ((x < a) ↔ (x < b))
same_side a b x xa xb up down =
    elim (cases_order a x) [
      | inl e ↦ absurd (xa (sym e))
      | inr (inl l) ↦ elim (cases_order b x) [
        | inl e ↦ absurd (xb (sym e))
        | inr (inl m) ↦ ((λ _. m, λ _. l), (λ h. omega arith, λ h. omega arith))
        | inr (inr m) ↦ absurd (up l m)
      ]
      | inr (inr l) ↦ elim (cases_order b x) [
        | inl e ↦ absurd (xb (sym e))
        | inr (inl m) ↦ absurd (down m l)
        | inr (inr m) ↦ ((λ h. omega arith, λ h. omega arith), (λ _. m, λ _. l))
      ]
    ]

-- two legal cards of a suit with no other player's card between them
pub no_between : (ownership : Ownership) (p : Position) (card other : Card) → IsOwned ownership p →
    set.contains (legal p) card ≡ true → set.contains (legal p) other ≡ true → card.suit ≡ other.suit →
    ((x : Card) → ownership.is_live x ≡ true → ownership.owner x ≢ ownership.owner card → IsBetween card other x → ⊥) →
    IsLike ownership card other
no_between ownership p card other owned may_card may_other same outside = record {
  suit = same;
  owner = of_card.1 ∙ sym of_other.1;
  first_live = of_card.0;
  second_live = of_other.0;
  above = λ x live ne of_suit. (sides x live ne of_suit).0;
  below = λ x live ne of_suit. (sides x live ne of_suit).1;
}
  where
    of_card : (ownership.is_live card ≡ true) × (ownership.owner card ≡ to_play p)
    of_card = owned.held (to_play p) card (legal_follows (hand_of p.hands (to_play p)) p.table card may_card).0

    of_other : (ownership.is_live other ≡ true) × (ownership.owner other ≡ to_play p)
    of_other = owned.held (to_play p) other (legal_follows (hand_of p.hands (to_play p)) p.table other may_other).0

    differs : (x y : Card) → ownership.owner x ≢ ownership.owner y → x.suit ≡ y.suit → height x.rank ≢ height y.rank
    differs x y ne of_suit e = ne (ap ownership.owner (same_number x y (omega (arith, ap suit_number of_suit))))

    sides : (x : Card) → ownership.is_live x ≡ true → ownership.owner x ≢ ownership.owner card → x.suit ≡ card.suit →
        ((height card.rank < height x.rank) ↔ (height other.rank < height x.rank)) ×
        ((height x.rank < height card.rank) ↔ (height x.rank < height other.rank))
    sides x live ne of_suit =
        same_side (height card.rank) (height other.rank) (height x.rank) (differs x card ne of_suit)
        (differs x other (λ e. ne (e ∙ of_other.1 ∙ sym of_card.1)) (of_suit ∙ same))
        (λ l m. outside x live ne (record { suit = of_suit; ranks = inl (l, m) }))
        (λ l m. outside x live ne (record { suit = of_suit; ranks = inr (l, m) }))

-- two neighbours are worth the same, however many cards are left after them
neighbours_in : (n : ℕ) (p : Position) (a b : Card) → IsPosition p → AreNeighbours p a b →
    worth_in n p a ≡ worth_in n p b
neighbours_in n p a b valid near =
    let owned = owned_tight (owners_of p) p (owned_position p valid) in
    let alike = no_between (tight (owners_of p) p) p a b owned near.first near.second near.suit
    (λ x live ne between. near.none x (tight_tight (owners_of p) p x live) between) in
    alike_worth n (tight (owners_of p) p) p a b owned (every_card_known p) alike near.first near.second

-- a legal card leaves one card less
pub one_less_after : (p : Position) (card : Card) → IsPosition p → set.contains (legal p) card ≡ true →
    cards_left p ≡ suc (cards_left (after p card))
one_less_after p card valid may = left_after (owners_of p) p card (owned_position p valid) may

-- two neighbours are worth the same
pub neighbours_worth : (p : Position) (a b : Card) → IsPosition p → AreNeighbours p a b → worth p a ≡ worth p b
neighbours_worth p a b valid near =
    let same : cards_left (after p a) ≡ cards_left (after p b) =
    omega (arith, one_less_after p a valid near.first, one_less_after p b valid near.second) in
    neighbours_in (cards_left (after p a)) p a b valid near ∙ ap (λ n. worth_in n p b) same

-- the cards of a run are worth the same
along_run : (p : Position) (tricks : ℕ) (first : Card) (run : List Card) → IsPosition p → worth p first ≡ tricks →
    IsRun p (first ∷ run) → All (λ card. worth p card ≡ tricks) run
along_run p tricks first [] valid is is_run = All-nil (λ card. worth p card ≡ tricks)
along_run p tricks first (card ∷ run) valid is (near, is_run) =
    let same = sym (neighbours_worth p first card valid near) ∙ is in
    All-cons (λ other. worth p other ≡ tricks) card run same (along_run p tricks card run valid same is_run)

pub run_worth : (p : Position) (first : Card) (run : List Card) → IsPosition p → IsRun p (first ∷ run) →
    All (λ card. worth p card ≡ worth p first) run
run_worth p first run valid is_run = along_run p (worth p first) first run valid refl is_run
