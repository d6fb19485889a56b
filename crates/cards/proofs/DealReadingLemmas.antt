-- The hands of a deal's text.
use Rattle.std.proofs.Common.{◌≡◌, ℕ, List, ◌∷◌, ◌++◌, refl, sym, ap, subst, ◌∙◌, arith}
use Rattle.std.specs.Prelude.{codes, nat_eq, if◌then◌else◌}
use Rattle.table_terms.specs.declared.place.Place.{Place}
use Rattle.table_terms.specs.declared.place.Place.TheVariants.{North, East, South, West}
use Rattle.table_terms.specs.Place.{place_letter, left_of, partner_of}
use Rattle.cards.specs.Cards.{Cards}
use Rattle.cards.specs.Hands.{Hands, hand_of}
use Rattle.cards.specs.HandText.{hand_text, deal_text}
use Rattle.table_terms.specs.declared.suit.Suit.TheVariants.{Spades, Hearts, Diamonds, Clubs}
use Rattle.cards.specs.FourHands.{clockwise_from}
use Rattle.cards.specs.HandReading.{IsHandText, IsDealText}
use Rattle.cards.specs.Parts.{HasNo, JoinsFour}
use Rattle.cards.proofs.PartsLemmas.{no_mark_before, no_mark_in_both, same_four}
use Rattle.cards.proofs.HandReadingLemmas.{no_space}
use Rattle.cards.proofs.HandLawsLemmas.{hand_reads, one_hand}

-- no space stands in a hand's text
no_space_in_hand : (cards : Cards) (text : List ℕ) → IsHandText cards text → HasNo 32 text
no_space_in_hand cards text h =
    let joined = no_mark_in_both 32 h.spades _ (no_space cards Spades h.spades h.in_spades)
    (no_mark_before 32 46 _ (λ e. omega arith)
    (no_mark_in_both 32 h.hearts _ (no_space cards Hearts h.hearts h.in_hearts)
    (no_mark_before 32 46 _ (λ e. omega arith)
    (no_mark_in_both 32 h.diamonds _ (no_space cards Diamonds h.diamonds h.in_diamonds)
    (no_mark_before 32 46 _ (λ e. omega arith) (no_space cards Clubs h.clubs h.in_clubs)))))) in
    subst (HasNo 32) (sym h.joined) joined

-- the four hands after the colon
abbrev pub after_colon : {hands : Hands} {text : List ℕ} → IsDealText hands text → List ℕ
after_colon h = h.own ++ 32 ∷ (h.left ++ 32 ∷ (h.opposite ++ 32 ∷ h.right))

pub hands_joined : (hands : Hands) (text : List ℕ) (h : IsDealText hands text) → JoinsFour 32 (after_colon h) h.own
    h.left h.opposite h.right
hands_joined hands text h = record {
  joined = refl;
  in_one = no_space_in_hand _ h.own h.is_own;
  in_two = no_space_in_hand _ h.left h.is_left;
  in_three = no_space_in_hand _ h.opposite h.is_opposite;
}

place_of : ℕ → Place
place_of letter = if nat_eq letter 78 then North
    else (if nat_eq letter 69 then East else (if nat_eq letter 83 then South else West))

place_of-place_letter : (place : Place) → place_of (place_letter place) ≡ place
unfolding place_of
place_of-place_letter North = refl
place_of-place_letter East = refl
place_of-place_letter South = refl
place_of-place_letter West = refl

-- the first letter names one player
pub same_first : (one other : Place) (rest also_rest : List ℕ) → place_letter one ∷ codes ":" ++ rest ≡ place_letter
    other ∷ codes ":" ++ also_rest → (one ≡ other) × (rest ≡ also_rest)
same_first one other rest also_rest e =
    let letters : place_letter one ≡ place_letter other = cc in
    (sym (place_of-place_letter one) ∙ ap place_of letters ∙ place_of-place_letter other, cc)

-- what each player holds, clockwise from the first
pub own_of : (first : Place) (a b c d : Cards) → hand_of (clockwise_from first a b c d) first ≡ a
own_of North a b c d = refl
own_of East a b c d = refl
own_of South a b c d = refl
own_of West a b c d = refl

pub left_hand_of : (first : Place) (a b c d : Cards) → hand_of (clockwise_from first a b c d) (left_of first) ≡ b
left_hand_of North a b c d = refl
left_hand_of East a b c d = refl
left_hand_of South a b c d = refl
left_hand_of West a b c d = refl

pub opposite_of : (first : Place) (a b c d : Cards) → hand_of (clockwise_from first a b c d) (partner_of first) ≡ c
opposite_of North a b c d = refl
opposite_of East a b c d = refl
opposite_of South a b c d = refl
opposite_of West a b c d = refl

pub right_of : (first : Place) (a b c d : Cards) → hand_of (clockwise_from first a b c d) (partner_of (left_of first)) ≡
    d
right_of North a b c d = refl
right_of East a b c d = refl
right_of South a b c d = refl
right_of West a b c d = refl

-- four hands are those that a player and the others hold
pub clockwise-hand_of : (hands : Hands) (first : Place) → clockwise_from first (hand_of hands first)
    (hand_of hands (left_of first)) (hand_of hands (partner_of first)) (hand_of hands (partner_of (left_of first))) ≡
    hands
clockwise-hand_of hands North = refl
clockwise-hand_of hands East = refl
clockwise-hand_of hands South = refl
clockwise-hand_of hands West = refl

-- four texts of hands make a deal's text
pub deal_of_hands : (first : Place) (a b c d : Cards) (text rest own left opposite right : List ℕ) →
    text ≡ place_letter first ∷ codes ":" ++ rest → JoinsFour 32 rest own left opposite right → IsHandText a own →
    IsHandText b left → IsHandText c opposite → IsHandText d right → IsDealText (clockwise_from first a b c d) text
deal_of_hands first a b c d text rest own left opposite right is parts in_a in_b in_c in_d = record {
  first = first;
  own = own;
  left = left;
  opposite = opposite;
  right = right;
  joined = is ∙ ap (λ bs. place_letter first ∷ codes ":" ++ bs) parts.joined;
  is_own = subst (λ cards. IsHandText cards own) (sym (own_of first a b c d)) in_a;
  is_left = subst (λ cards. IsHandText cards left) (sym (left_hand_of first a b c d)) in_b;
  is_opposite = subst (λ cards. IsHandText cards opposite) (sym (opposite_of first a b c d)) in_c;
  is_right = subst (λ cards. IsHandText cards right) (sym (right_of first a b c d)) in_d;
}

-- what follows the colon is the four hands
pub parts_after_colon : (hands : Hands) (text rest : List ℕ) (first : Place) (h : IsDealText hands text) →
    text ≡ place_letter first ∷ codes ":" ++ rest → JoinsFour 32 rest h.own h.left h.opposite h.right
parts_after_colon hands text rest first h is =
    subst (λ bs. JoinsFour 32 bs h.own h.left h.opposite h.right) (same_first h.first first (after_colon h) rest
    (sym h.joined ∙ is)).1 (hands_joined hands text h)

-- and its parts are the texts of those hands
pub hands_of : (hands : Hands) (text rest own left opposite right : List ℕ) (first : Place)
    (h : IsDealText hands text) → text ≡ place_letter first ∷ codes ":" ++ rest → JoinsFour 32 rest own left opposite
    right → IsHandText (hand_of hands h.first) own × IsHandText (hand_of hands (left_of h.first)) left ×
    IsHandText (hand_of hands (partner_of h.first)) opposite × IsHandText (hand_of hands (partner_of (left_of h.first)))
    right
hands_of hands text rest own left opposite right first h is parts =
    let same = same_four 32 rest h.own h.left h.opposite h.right own left opposite right
    (parts_after_colon hands text rest first h is) parts in (
      subst (λ bs. IsHandText (hand_of hands h.first) bs) same.0 h.is_own,
      subst (λ bs. IsHandText (hand_of hands (left_of h.first)) bs) same.1 h.is_left,
      subst (λ bs. IsHandText (hand_of hands (partner_of h.first)) bs) same.2 h.is_opposite,
      subst (λ bs. IsHandText (hand_of hands (partner_of (left_of h.first))) bs) same.3 h.is_right,
    )

-- what is written of four hands is their text
pub deal_reads : (hands : Hands) → IsDealText hands (deal_text hands)
deal_reads hands = record {
  first = North;
  own = hand_text hands.north;
  left = hand_text hands.east;
  opposite = hand_text hands.south;
  right = hand_text hands.west;
  joined = refl;
  is_own = hand_reads hands.north;
  is_left = hand_reads hands.east;
  is_opposite = hand_reads hands.south;
  is_right = hand_reads hands.west;
}

-- two records of four hands with one text are equal
pub one_deal : (one other : Hands) (text : List ℕ) → IsDealText one text → IsDealText other text → one ≡ other
one_deal one other text h also_h =
    let first : also_h.first ≡ h.first = (same_first also_h.first h.first (after_colon also_h) (after_colon h)
    (sym also_h.joined ∙ h.joined)).0 in
    let texts = hands_of other text (after_colon h) h.own h.left h.opposite h.right h.first also_h h.joined
    (hands_joined one text h) in
    sym (clockwise-hand_of one h.first)
    ∙ (λ i. clockwise_from h.first
    (one_hand (hand_of one h.first) (hand_of other h.first) h.own h.is_own
    (subst (λ place. IsHandText (hand_of other place) h.own) first texts.0) i)
    (one_hand (hand_of one (left_of h.first)) (hand_of other (left_of h.first)) h.left h.is_left
    (subst (λ place. IsHandText (hand_of other (left_of place)) h.left) first texts.1) i)
    (one_hand (hand_of one (partner_of h.first)) (hand_of other (partner_of h.first)) h.opposite h.is_opposite
    (subst (λ place. IsHandText (hand_of other (partner_of place)) h.opposite) first texts.2) i)
    (one_hand (hand_of one (partner_of (left_of h.first))) (hand_of other (partner_of (left_of h.first))) h.right
    h.is_right (subst (λ place. IsHandText (hand_of other (partner_of (left_of place))) h.right) first texts.3) i))
    ∙ clockwise-hand_of other h.first
