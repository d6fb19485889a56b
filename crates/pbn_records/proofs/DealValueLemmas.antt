-- The parts of a Deal, and the hands that they are the texts of.
use Rattle.std.proofs.Common.{◌≡◌, ℕ, zero, suc, ◌<◌, List, [], ◌∷◌, ◌++◌, sym, subst, ◌∙◌, arith}
use Rattle.std.specs.Prelude.{All, codes, Option, Some, None, IfSome, IfNone}
use Rattle.std.specs.Str.{IsAscii}
use Rattle.std.specs.Char.{to_ascii_uppercase}
use Rattle.std.proofs.lemmas.List.Elements.{All-append}
use Rattle.table_terms.specs.declared.place.Place.{Place}
use Rattle.cards.specs.declared.rank.Rank.{Rank}
use Rattle.table_terms.specs.declared.suit.Suit.{Suit}
use Rattle.cards.specs.Rank.{rank_letter}
use Rattle.cards.specs.CardBits.{each_rank}
use Rattle.table_terms.specs.Place.{left_of, partner_of}
use Rattle.cards.specs.Cards.{Cards}
use Rattle.cards.specs.Hands.{Hands, hand_of, IsDeal}
use Rattle.cards.specs.HandReading.{Names, IsHoldingText, IsHandText}
use Rattle.cards.specs.FourHands.{clockwise_from}
use Rattle.cards.proofs.DealReadingLemmas.{own_of, left_hand_of, opposite_of, right_of, clockwise-hand_of}
use Rattle.cards.proofs.HandLawsLemmas.{one_hand}
use Rattle.pbn_records.specs.DealValue.{IsDealOf}

-- four hands that are a deal make their texts that deal's
pub deal_of_texts : (first : Place) (a b c d : Cards) (own left opposite right : List ℕ) (hands : Hands) →
    IsHandText a own → IsHandText b left → IsHandText c opposite → IsHandText d right →
    hands ≡ clockwise_from first a b c d → IsDeal hands → IsDealOf hands first own left opposite right
deal_of_texts first a b c d own left opposite right hands in_a in_b in_c in_d is deal =
    subst (λ (hands : Hands). IsDeal hands → IsDealOf hands first own left opposite right) (sym is)
    (λ deal. record {
      is_own = subst (λ cards. IsHandText cards own) (sym (own_of first a b c d)) in_a;
      is_left = subst (λ cards. IsHandText cards left) (sym (left_hand_of first a b c d)) in_b;
      is_opposite = subst (λ cards. IsHandText cards opposite) (sym (opposite_of first a b c d)) in_c;
      is_right = subst (λ cards. IsHandText cards right) (sym (right_of first a b c d)) in_d;
      deal = deal;
    })
    deal

-- texts are those of one deal at most
pub hands_of_texts : (first : Place) (a b c d : Cards) (own left opposite right : List ℕ) (hands : Hands) →
    IsHandText a own → IsHandText b left → IsHandText c opposite → IsHandText d right →
    IsDealOf hands first own left opposite right → hands ≡ clockwise_from first a b c d
hands_of_texts first a b c d own left opposite right hands in_a in_b in_c in_d is =
    sym (clockwise-hand_of hands first)
    ∙ (λ i. clockwise_from first
    (one_hand (hand_of hands first) a own is.is_own in_a i)
    (one_hand (hand_of hands (left_of first)) b left is.is_left in_b i)
    (one_hand (hand_of hands (partner_of first)) c opposite is.is_opposite in_c i)
    (one_hand (hand_of hands (partner_of (left_of first))) d right is.is_right in_d i))

pub no_deal_of_texts : (first : Place) (a b c d : Cards) (own left opposite right : List ℕ) →
    IsHandText a own → IsHandText b left → IsHandText c opposite → IsHandText d right →
    (¬ IsDeal (clockwise_from first a b c d)) → (hands : Hands) → ¬ IsDealOf hands first own left opposite right
no_deal_of_texts first a b c d own left opposite right in_a in_b in_c in_d none hands is =
    none (subst IsDeal (hands_of_texts first a b c d own left opposite right hands in_a in_b in_c in_d is) is.deal)

pub if_some_both : {A : Type 0} {P Q R : A → Type 0} (o : Option A) → ((x : A) → P x → Q x → R x) → IfSome o P →
    IfSome o Q → IfSome o R
if_some_both None f one other = one
if_some_both (Some x) f one other = f x one other

pub if_none_map : {A : Type 0} {P Q : Type 0} (o : Option A) → (P → Q) → IfNone o P → IfNone o Q
if_none_map None f is = f is
if_none_map (Some x) f is = is

-- what is true of rank letters and dots is true of each byte of a hand's text
pub hand_has : (P : ℕ → Type 0) → ((letter : ℕ) (rank : Rank) → Names letter rank → P letter) → P 46 →
    (cards : Cards) (text : List ℕ) → IsHandText cards text → All P text
hand_has P letters dot cards text is =
    subst (All P) (sym is.joined)
    (after_dot is.spades (is.hearts ++ (codes "." ++ (is.diamonds ++ (codes "." ++ is.clubs)))) (suit _ _ is.in_spades)
    (after_dot is.hearts (is.diamonds ++ (codes "." ++ is.clubs)) (suit _ _ is.in_hearts)
    (after_dot is.diamonds is.clubs (suit _ _ is.in_diamonds) (suit _ _ is.in_clubs))))
  where
    suit : (s : Suit) (bytes : List ℕ) → IsHoldingText cards s bytes → All P bytes
    suit s bytes holds i d within = let named = holds.each i d within in letters _ named.0 named.1

    one_dot : All P (codes ".")
    one_dot zero d within = dot
    one_dot (suc i) d within = absurd (omega (arith, within))

    after_dot : (bytes rest : List ℕ) → All P bytes → All P rest → All P (bytes ++ (codes "." ++ rest))
    after_dot bytes rest a b = All-append P bytes (codes "." ++ rest) a (All-append P (codes ".") rest one_dot b)

-- letters of ranks are ASCII
rank_is_ascii : (rank : Rank) → rank_letter rank < 128
rank_is_ascii = each_rank (λ rank. rank_letter rank < 128)
    (omega arith) (omega arith) (omega arith) (omega arith) (omega arith) (omega arith) (omega arith)
    (omega arith) (omega arith) (omega arith) (omega arith) (omega arith) (omega arith)

upper_is_ascii : (letter : ℕ) → to_ascii_uppercase letter < 128 → letter < 128
upper_is_ascii letter below = grind (arith, below)

all_ascii : (bytes : List ℕ) → All (λ byte. byte < 128) bytes → IsAscii bytes
all_ascii [] all i = omega arith
all_ascii (byte ∷ bytes) all zero = all 0 0 (omega arith)
all_ascii (byte ∷ bytes) all (suc i) = all_ascii bytes (λ k d h. all (suc k) d (omega (arith, h))) i

pub hand_is_ascii : (cards : Cards) (text : List ℕ) → IsHandText cards text → IsAscii text
hand_is_ascii cards text is =
    all_ascii text (hand_has (λ byte. byte < 128)
    (λ letter rank named. upper_is_ascii letter (subst (λ n. n < 128) (sym named) (rank_is_ascii rank)))
    (omega arith) cards text is)
