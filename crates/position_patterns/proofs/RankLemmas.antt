-- The ranks below a height, from the top down, and the cards of a suit that are held of them.
use Rattle.std.proofs.Common.{
  ◌≡◌,
  ℕ,
  ◌+◌,
  ◌-◌,
  ◌*◌,
  ◌^◌,
  ◌%◌,
  bit_and,
  ◌<◌,
  ◌≤◌,
  List,
  [],
  ◌∷◌,
  refl,
  sym,
  ap,
  ◌∙◌,
  subst,
  arith,
  zero,
  suc,
  Some,
  None,
  add-one,
  lit<,
}
use Rattle.std.proofs.Math.Nat.{pow-suc, mul_comm}
use Rattle.std.proofs.lemmas.Nat.{one_shl, and_mask}
use Rattle.table_terms.specs.declared.suit.Suit.{Suit}
use Rattle.cards.specs.declared.rank.Rank.{Rank}
use Rattle.cards.specs.declared.rank.Rank.TheVariants.{
  Two,
  Three,
  Four,
  Five,
  Six,
  Seven,
  Eight,
  Nine,
  Ten,
  Jack,
  Queen,
  King,
  Ace,
}
use Rattle.table_terms.specs.declared.place.Place.{Place}
use Rattle.table_terms.specs.declared.place.Place.TheVariants.{North, East, South, West}
use Rattle.cards.specs.Hands.{Hands}
use Rattle.cards.specs.CardBits.{each_rank}
use Rattle.cards.specs.Rank.{height, ranks_down}
use Rattle.table_terms.specs.Place.{place_number}
use Rattle.position_patterns.proofs.DigitLemmas.{digit_below}
use Rattle.position_patterns.specs.Tops.{digits, lengths_number, place_weight}
use Rattle.double_dummy_laws.specs.Pattern.{Held, held_before, held_of, holder_of, holding}

unfoldable pub rank_from : ℕ → Rank
rank_from zero = Two
rank_from (suc zero) = Three
rank_from (suc (suc zero)) = Four
rank_from (suc (suc (suc zero))) = Five
rank_from (suc (suc (suc (suc zero)))) = Six
rank_from (suc (suc (suc (suc (suc zero))))) = Seven
rank_from (suc (suc (suc (suc (suc (suc zero)))))) = Eight
rank_from (suc (suc (suc (suc (suc (suc (suc zero))))))) = Nine
rank_from (suc (suc (suc (suc (suc (suc (suc (suc zero)))))))) = Ten
rank_from (suc (suc (suc (suc (suc (suc (suc (suc (suc zero))))))))) = Jack
rank_from (suc (suc (suc (suc (suc (suc (suc (suc (suc (suc zero)))))))))) = Queen
rank_from (suc (suc (suc (suc (suc (suc (suc (suc (suc (suc (suc zero))))))))))) = King
rank_from (suc (suc (suc (suc (suc (suc (suc (suc (suc (suc (suc (suc _)))))))))))) = Ace

pub rank_from-height : (rank : Rank) → rank_from (height rank) ≡ rank
unfolding rank_from
rank_from-height = each_rank (λ rank. rank_from (height rank)
    ≡ rank) refl refl refl refl refl refl refl refl refl refl refl refl refl

-- the ranks below a height, from the top down
unfoldable pub ranks_below : ℕ → List Rank
ranks_below zero = []
ranks_below (suc k) = rank_from k ∷ ranks_below k

all_ranks : ranks_below 13 ≡ ranks_down
unfolding ranks_below rank_from ranks_down
all_ranks = refl

-- the cards of a suit that are held, below a height
abbrev pub held_below : Hands → Suit → ℕ → List Held
held_below hands suit k = held_of hands suit (ranks_below k)

pub held_below-none : (hands : Hands) (suit : Suit) → held_below hands suit 0 ≡ []
unfolding ranks_below
held_below-none hands suit = refl

pub held_below-all : (hands : Hands) (suit : Suit) (k : ℕ) → k ≡ 13 → held_below hands suit k ≡ holding hands suit
held_below-all hands suit k e = ap (λ j. held_of hands suit (ranks_below j)) e ∙ ap (held_of hands suit) all_ranks

pub held_below-next : (hands : Hands) (suit : Suit) (rank : Rank) (k : ℕ) → height rank ≡ k →
    held_below hands suit (k + 1) ≡ held_before (record { suit = suit; rank = rank })
    (holder_of hands (record { suit = suit; rank = rank })) (held_below hands suit k)
unfolding ranks_below
held_below-next hands suit rank k e =
    ap (held_below hands suit) (add-one k)
    ∙ ap (λ r. held_before (record { suit = suit; rank = r }) (holder_of hands (record { suit = suit; rank = r }))
    (held_below hands suit k))
    (ap rank_from (sym e) ∙ rank_from-height rank)

pub held_below-some : (hands : Hands) (suit : Suit) (rank : Rank) (k : ℕ) (place : Place) → height rank ≡ k →
    Some place ≡ holder_of hands (record { suit = suit; rank = rank }) →
    held_below hands suit (k + 1) ≡ record {
      card = record { suit = suit; rank = rank };
      place =
          place;
    } ∷ held_below hands suit k
held_below-some hands suit rank k place e held =
    held_below-next hands suit rank k e
    ∙ ap (λ h. held_before (record { suit = suit; rank = rank }) h (held_below hands suit k)) (sym held)

pub held_below-free : (hands : Hands) (suit : Suit) (rank : Rank) (k : ℕ) → height rank ≡ k →
    None ≡ holder_of hands (record { suit = suit; rank = rank }) →
    held_below hands suit (k + 1) ≡ held_below hands suit k
held_below-free hands suit rank k e held =
    held_below-next hands suit rank k e
    ∙ ap (λ h. held_before (record { suit = suit; rank = rank }) h (held_below hands suit k)) (sym held)

four_times : (k : ℕ) → 2 ^ (2 * (k + 1)) ≡ 4 * 2 ^ (2 * k)
four_times k =
    let e : 2 * (k + 1) ≡ suc (suc (2 * k)) = omega arith in
    ap (λ n. 2 ^ n) e ∙ pow-suc 2 (suc (2 * k)) ∙ ap (λ n. n * 2) (pow-suc 2 (2 * k)) ∙ omega arith

weight_few : (place : Place) → place_weight place ≤ 4096
weight_few North = omega arith
weight_few East = omega arith
weight_few South = omega arith
weight_few West = omega arith

-- the two numbers of a suit's cards below a height
pub record IsSoFar (hands : Hands) (suit : Suit) (k owners lengths : ℕ) : Type 0 where
  pub within : k ≤ 13
  pub owners_are : owners ≡ digits (held_below hands suit k)
  pub lengths_are : lengths ≡ lengths_number (held_below hands suit k)
  pub small : owners < 2 ^ (2 * k)
  pub few : lengths ≤ 4096 * k

pub so_far_start : (hands : Hands) (suit : Suit) → IsSoFar hands suit 0 0 0
so_far_start hands suit = record {
  within = omega arith;
  owners_are = sym (ap digits (held_below-none hands suit));
  lengths_are = sym (ap lengths_number (held_below-none hands suit));
  small = lit< tt;
  few = omega arith;
}

pub so_far_some : (hands : Hands) (suit : Suit) (rank : Rank) (k owners lengths : ℕ) (place : Place) → k < 13 →
    height rank ≡ k →
    Some place ≡ holder_of hands (record { suit = suit; rank = rank }) → IsSoFar hands suit k owners lengths →
    IsSoFar hands suit (k + 1) (place_number place + 4 * owners) (place_weight place + lengths)
so_far_some hands suit rank k owners lengths place less e held before =
    let next = held_below-some hands suit rank k place e held in
    let shape = four_times k in
    let digit = digit_below place in
    let small = before.small in
    let weight = weight_few place in
    let few = before.few in
    record {
      within = omega arith;
      owners_are = ap (λ n. place_number place + 4 * n) before.owners_are ∙ sym (ap digits next);
      lengths_are = ap (λ n. place_weight place + n) before.lengths_are ∙ sym (ap lengths_number next);
      small = subst (λ n. place_number place + 4 * owners < n) (sym shape) (omega arith);
      few = omega arith;
    }

pub so_far_free : (hands : Hands) (suit : Suit) (rank : Rank) (k owners lengths : ℕ) → k < 13 → height rank ≡ k →
    None ≡ holder_of hands (record { suit = suit; rank = rank }) → IsSoFar hands suit k owners lengths →
    IsSoFar hands suit (k + 1) owners lengths
so_far_free hands suit rank k owners lengths less e free before =
    let next = held_below-free hands suit rank k e free in
    let shape = four_times k in
    let small = before.small in
    let few = before.few in
    record {
      within = omega arith;
      owners_are = before.owners_are ∙ sym (ap digits next);
      lengths_are = before.lengths_are ∙ sym (ap lengths_number next);
      small = subst (λ n. owners < n) (sym shape) (omega arith);
      few = omega arith;
    }

pub so_far_all : (hands : Hands) (suit : Suit) (k owners lengths : ℕ) → k ≡ 13 → IsSoFar hands suit k owners lengths →
    (owners ≡ digits (holding hands suit)) × (lengths ≡ lengths_number (holding hands suit))
so_far_all hands suit k owners lengths e all = (
  all.owners_are ∙ ap digits (held_below-all hands suit k e),
  all.lengths_are
      ∙ ap lengths_number (held_below-all hands suit k e),
)

four_pow : (k : ℕ) → 2 ^ (2 * k) ≡ 4 ^ k
four_pow zero = refl
four_pow (suc k) =
    ap (λ n. 2 ^ (2 * n)) (sym (add-one k)) ∙ four_times k ∙ ap (λ n. 4 * n) (four_pow k) ∙ mul_comm 4 (4 ^ k)
    ∙ sym (pow-suc 4 k)

-- the lowest digits, by a mask
pub low_digits : (owners count : ℕ) → count ≤ 13 →
    bit_and owners (1 * 2 ^ (2 * count) % 4294967296 - 1) ≡ owners % 2 ^ (2 * count)
low_digits owners count few = ap (λ n. bit_and owners (n - 1)) (one_shl (2 * count) 32 (omega arith))
    ∙ and_mask owners (2 * count)

pub low_digits_four : (owners count : ℕ) → owners % 2 ^ (2 * count) ≡ owners % 4 ^ count
low_digits_four owners count = ap (λ n. owners % n) (four_pow count)
