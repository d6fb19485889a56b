-- A deal that is written is the value of a tag Deal, and each byte of it stands for itself.
use Rattle.std.proofs.Common.{◌≡◌, ◌≢◌, ℕ, suc, zero, ◌<◌, ◌≤◌, Bool, true, false, List, [], ◌∷◌, ◌++◌, length, refl, sym, ap, subst, ◌∙◌, arith, inl, inr}
use Rattle.std.specs.Prelude.{All, codes, nat_eq, nat_lt, not, ◌&&◌, ◌||◌}
use Rattle.std.specs.List.{list_all}
use Rattle.std.specs.Char.{to_ascii_uppercase}
use Rattle.std.proofs.lemmas.Bool.{and_from, ne_eqb}
use Rattle.std.proofs.lemmas.List.Folds.{list_all-append}
use Rattle.std.proofs.lemmas.List.{append-nil}
use Rattle.table_terms.specs.declared.place.Place.TheVariants.{North}
use Rattle.cards.specs.declared.rank.Rank.{Rank}
use Rattle.cards.specs.Rank.{rank_letter}
use Rattle.cards.specs.CardBits.{each_rank}
use Rattle.cards.specs.Cards.{Cards}
use Rattle.cards.specs.Hands.{Hands, IsDeal}
use Rattle.cards.specs.HandReading.{Names, IsHandText}
use Rattle.cards.specs.HandText.{hand_text, deal_text}
use Rattle.cards.proofs.HandLawsLemmas.{hand_reads}
use Rattle.pbn_records.specs.DealValue.{parts, IsDealValue, IsHiddenValue}
use Rattle.pbn_records.proofs.DealValueLemmas.{hand_has}
use Rattle.pbn_records.proofs.PartsLemmas.{NoSpace, StartsAtSpace, first_part, four_parts, not_hidden}
use Rattle.pbn_export.proofs.GameLemmas.{is_itself}

-- what is at an index is so, where each byte passes a test
all_pass : (test : ℕ → Bool) (bytes : List ℕ) → All (λ byte. test byte ≡ true) bytes → list_all test bytes ≡ true
all_pass test [] all = refl
all_pass test (byte ∷ bytes) all =
    and_from (test byte) (list_all test bytes) (all 0 0 (omega arith))
    (all_pass test bytes (λ i d within. all (suc i) d (omega (arith, within))))

-- a letter of a rank, or a dot
rank_itself : (rank : Rank) → (46 ≤ rank_letter rank) × (rank_letter rank ≤ 84)
rank_itself = each_rank (λ rank. (46 ≤ rank_letter rank) × (rank_letter rank ≤ 84))
    (omega arith, omega arith) (omega arith, omega arith) (omega arith, omega arith) (omega arith, omega arith)
    (omega arith, omega arith) (omega arith, omega arith) (omega arith, omega arith) (omega arith, omega arith)
    (omega arith, omega arith) (omega arith, omega arith) (omega arith, omega arith) (omega arith, omega arith)
    (omega arith, omega arith)

-- a letter whose capital is no less than a dot is no less than one
high_letter : (letter : ℕ) → 46 ≤ to_ascii_uppercase letter → 46 ≤ letter
high_letter letter from = grind (arith, from)

-- a letter whose capital stands between a dot and T is no quote, no backslash and no control character
letter_itself : (letter : ℕ) → 46 ≤ to_ascii_uppercase letter → to_ascii_uppercase letter ≤ 84 → is_itself letter ≡ true
letter_itself letter from to =
    let high = high_letter letter from in
    let quote : nat_eq letter 34 ≡ false = ne_eqb letter 34 (λ e. absurd (omega (arith, e, high))) in
    let backslash : nat_eq letter 92 ≡ false = ne_eqb letter 92 (not_at 92 (λ (most : 92 ≤ 84). omega (arith, most))) in
    let low : nat_lt letter 32 ≡ false = grind (arith, high) in
    let delete : nat_eq letter 127 ≡ false = ne_eqb letter 127 (not_at 127 (λ (most : 127 ≤ 84). omega (arith, most))) in
    λ i. (not (quote i) && not (backslash i)) && not (low i || delete i)
  where
    not_at : (byte : ℕ) → (to_ascii_uppercase byte ≤ 84 → ⊥) → letter ≡ byte → ⊥
    not_at byte above same = above (subst (λ n. to_ascii_uppercase n ≤ 84) same to)

letter_no_space : (letter : ℕ) → 46 ≤ to_ascii_uppercase letter → letter ≢ 32
letter_no_space letter from = let high = high_letter letter from in λ e. absurd (omega (arith, e, high))

named_itself : (letter : ℕ) (rank : Rank) → Names letter rank → is_itself letter ≡ true
named_itself letter rank named =
    letter_itself letter (subst (λ n. 46 ≤ n) (sym named) (rank_itself rank).0)
    (subst (λ n. n ≤ 84) (sym named) (rank_itself rank).1)

named_no_space : (letter : ℕ) (rank : Rank) → Names letter rank → letter ≢ 32
named_no_space letter rank named = letter_no_space letter (subst (λ n. 46 ≤ n) (sym named) (rank_itself rank).0)

hand_itself : (cards : Cards) → list_all is_itself (hand_text cards) ≡ true
hand_itself cards =
    all_pass is_itself (hand_text cards)
    (hand_has (λ byte. is_itself byte ≡ true) named_itself refl cards (hand_text cards) (hand_reads cards))

hand_no_space : (cards : Cards) → NoSpace (hand_text cards)
hand_no_space cards =
    hand_has (λ byte. byte ≢ 32) named_no_space (omega arith) cards (hand_text cards) (hand_reads cards)

both_pass : (some more : List ℕ) → list_all is_itself some ≡ true → list_all is_itself more ≡ true →
    list_all is_itself (some ++ more) ≡ true
both_pass some more a b =
    list_all-append is_itself some more ∙ and_from (list_all is_itself some) (list_all is_itself more) a b

pub deal_itself : (hands : Hands) → list_all is_itself (deal_text hands) ≡ true
deal_itself hands =
    both_pass (hand_text hands.north) _ (hand_itself hands.north)
    (both_pass (hand_text hands.east) _ (hand_itself hands.east)
    (both_pass (hand_text hands.south) _ (hand_itself hands.south) (hand_itself hands.west)))

-- a hand's text has three dots, and so a byte at least, and its first is no space
hand_parts : (cards : Cards) (rest : List ℕ) → StartsAtSpace rest → parts (hand_text cards ++ rest) ≡ hand_text cards ∷ parts rest
hand_parts cards rest at =
    first_part (hand_text cards ++ rest) (hand_text cards) rest refl (hand_no_space cards) at
    (first (hand_text cards) (hand_no_space cards) (some cards)) (longer (hand_text cards) (some cards))
  where
    some : (c : Cards) → 0 < length (hand_text c)
    some c = dotted _ _
      where
        dotted : (spades more : List ℕ) → 0 < length (spades ++ (46 ∷ more))
        dotted [] more = omega arith
        dotted (byte ∷ spades) more = omega arith

    first : (text : List ℕ) → NoSpace text → 0 < length text →
        (byte : ℕ) (bytes : List ℕ) → text ++ rest ≡ byte ∷ bytes → byte ≢ 32
    first [] none some byte bytes same = absurd (omega (arith, some))
    first (letter ∷ text) none some byte bytes same =
        let is : letter ≡ byte = first_of _ same in subst (λ b. b ≢ 32) is (none 0 0 (omega arith))
      where
        first_of : (more : List ℕ) → letter ∷ more ≡ byte ∷ bytes → letter ≡ byte
        first_of more same = cc

    longer : (text : List ℕ) → 0 < length text → 0 < length (text ++ rest)
    longer [] some = absurd (omega (arith, some))
    longer (letter ∷ text) some = omega arith

-- what begins with a space starts there
at_space : (bytes : List ℕ) → StartsAtSpace (32 ∷ bytes)
at_space bytes byte more same = first_of same
  where
    first_of : 32 ∷ bytes ≡ byte ∷ more → byte ≡ 32
    first_of e = cc

at_end : StartsAtSpace []
at_end byte more same = absurd (cc)

-- no space is in the letter, the colon and the first hand
no_space_first : (cards : Cards) → NoSpace (78 ∷ 58 ∷ hand_text cards)
no_space_first cards zero d within = omega arith
no_space_first cards (suc zero) d within = omega arith
no_space_first cards (suc (suc i)) d within = hand_no_space cards i d (omega (arith, within))

begin_part : (cards : Cards) (rest : List ℕ) →
    parts (78 ∷ 58 ∷ (hand_text cards ++ 32 ∷ rest)) ≡ (78 ∷ 58 ∷ hand_text cards) ∷ parts (32 ∷ rest)
begin_part cards rest =
    first_part (78 ∷ 58 ∷ (hand_text cards ++ 32 ∷ rest)) (78 ∷ 58 ∷ hand_text cards) (32 ∷ rest) refl
    (no_space_first cards) (at_space rest) begins (omega arith)
  where
    begins : (byte : ℕ) (bytes : List ℕ) → 78 ∷ 58 ∷ (hand_text cards ++ 32 ∷ rest) ≡ byte ∷ bytes → byte ≢ 32
    begins byte bytes same = let is : 78 ≡ byte = first_of same in λ e. absurd (omega (arith, is, e))
      where
        first_of : 78 ∷ 58 ∷ (hand_text cards ++ 32 ∷ rest) ≡ byte ∷ bytes → 78 ≡ byte
        first_of e = cc

last_part : (cards : Cards) → parts (32 ∷ hand_text cards) ≡ hand_text cards ∷ parts []
last_part cards = ap parts (sym (append-nil (hand_text cards))) ∙ hand_parts cards [] at_end

-- what is written of a deal is that deal's
pub deal_value : (hands : Hands) → IsDeal hands → IsDealValue hands (deal_text hands)
deal_value hands deal =
    let north = hand_text hands.north in
    let east = hand_text hands.east in
    let south = hand_text hands.south in
    let west = hand_text hands.west in
    let r3 = 32 ∷ west in
    let r2 = 32 ∷ (south ++ r3) in
    let r1 = 32 ∷ (east ++ r2) in
    record {
      first = North;
      own = north;
      left = east;
      opposite = south;
      right = west;
      has = record {
        letter = 78;
        names = refl;
        four = four_parts (deal_text hands) (78 ∷ 58 ∷ north) east south west r1 r2 r3 []
            (begin_part hands.north (east ++ r2))
            (hand_parts hands.east r2 (at_space (south ++ r3)))
            (hand_parts hands.south r3 (at_space west))
            (last_part hands.west) refl;
      };
      is = record {
        is_own = hand_reads hands.north;
        is_left = hand_reads hands.east;
        is_opposite = hand_reads hands.south;
        is_right = hand_reads hands.west;
        deal = deal;
      };
    }

no_hyphen : (cards : Cards) (text : List ℕ) → IsHandText cards text → text ≢ codes "-"
no_hyphen cards text is e =
    let all = subst (λ bytes. All (λ byte. 46 ≤ byte) bytes) e (hand_has (λ byte. 46 ≤ byte) high (omega arith) cards
    text is) in
    let first = all 0 0 (omega arith) in omega (arith, first)
  where
    high : (letter : ℕ) (rank : Rank) → Names letter rank → 46 ≤ letter
    high letter rank named = high_letter letter (subst (λ n. 46 ≤ n) (sym named) (rank_itself rank).0)

-- none of its hands isn't shown
pub shown_deal : (hands : Hands) (value : List ℕ) → IsDealValue hands value → ¬ IsHiddenValue value
shown_deal hands value is =
    not_hidden value is.first is.own is.left is.opposite is.right is.has (λ hidden. elim hidden.some [
      | inl own ↦ no_hyphen _ _ is.is.is_own own
      | inr others ↦ elim others [
        | inl left ↦ no_hyphen _ _ is.is.is_left left
        | inr others ↦ elim others [
          | inl opposite ↦ no_hyphen _ _ is.is.is_opposite opposite
          | inr right ↦ no_hyphen _ _ is.is.is_right right
        ]
      ]
    ])
