-- The forms of used values have no `"` and no `\`: what is said of a value as written is said of it as read.
use Rattle.std.proofs.Common.{
  ◌≡◌,
  ℕ,
  suc,
  Bool,
  true,
  false,
  ◌⊎◌,
  inl,
  inr,
  List,
  [],
  ◌∷◌,
  ◌++◌,
  map,
  refl,
  sym,
  ap,
  ◌∙◌,
  arith,
  append-nil,
  append_assoc,
}
use Rattle.std.specs.Prelude.{All, ◌&&◌, ◌==◌, if◌then◌else◌, codes}
use Rattle.std.specs.List.{list_all}
use Rattle.std.specs.Char.{to_ascii_uppercase, to_ascii_lowercase}
use Rattle.std.proofs.lemmas.Bool.{cases_Bool, eqb-true}
use Rattle.std.proofs.lemmas.List.Folds.{list_all-append}
use Rattle.table_terms.specs.declared.place.Place.{Place}
use Rattle.table_terms.specs.declared.place.Place.TheVariants.{North, East, South, West}
use Rattle.table_terms.specs.declared.vulnerability.Vulnerability.{Vulnerability}
use Rattle.table_terms.specs.declared.vulnerability.Vulnerability.TheVariants.{Neither, NorthSouth, EastWest, Both}
use Rattle.cards.specs.declared.rank.Rank.{Rank}
use Rattle.cards.specs.Rank.{rank_letter}
use Rattle.cards.specs.CardBits.{each_rank}
use Rattle.table_terms.specs.Place.{place_letter}
use Rattle.cards.specs.Hands.{Hands}
use Rattle.cards.specs.HandReading.{Names, IsHandText}
use Rattle.pbn_records.specs.Values.{read_value}
use Rattle.pbn_records.specs.MarkValue.{IsWord, IsDealerValue, IsVulnerableValue}
use Rattle.pbn_records.specs.DealValue.{
  ended_part,
  parts_from,
  HasParts,
  IsRankLetter,
  IsHandForm,
  IsPart,
  IsDealValue,
  IsHiddenValue,
}
use Rattle.pbn_records.proofs.EscapeLemmas.{is_free, are_free, same_fact}
use Rattle.pbn_records.proofs.DealValueLemmas.{hand_has}

upper_free : (byte : ℕ) → is_free (to_ascii_uppercase byte) ≡ is_free byte
upper_free byte = grind arith

lower_free : (byte : ℕ) → is_free (to_ascii_lowercase byte) ≡ is_free byte
lower_free byte = grind arith

uppers_free : (value : List ℕ) → are_free (map to_ascii_uppercase value) ≡ are_free value
uppers_free [] = refl
uppers_free (byte ∷ value) = λ i. upper_free byte i && uppers_free value i

lowers_free : (value : List ℕ) → are_free (map to_ascii_lowercase value) ≡ are_free value
lowers_free [] = refl
lowers_free (byte ∷ value) = λ i. lower_free byte i && lowers_free value i

place_free : (place : Place) → are_free (place_letter place ∷ []) ≡ true
place_free North = refl
place_free East = refl
place_free South = refl
place_free West = refl

dealer_free : (place : Place) (value : List ℕ) → IsDealerValue value place → are_free value ≡ true
dealer_free place value is = sym (uppers_free value) ∙ ap are_free is ∙ place_free place

word_free : (word value : List ℕ) → are_free (map to_ascii_lowercase word) ≡ true → IsWord word value →
    are_free value ≡ true
word_free word value free is = sym (lowers_free value) ∙ ap are_free is ∙ free

vulnerable_free : (vulnerability : Vulnerability) (value : List ℕ) → IsVulnerableValue value vulnerability →
    are_free value ≡ true
vulnerable_free Neither value (inl is) = word_free (codes "None") value refl is
vulnerable_free Neither value (inr (inl is)) = word_free (codes "Love") value refl is
vulnerable_free Neither value (inr (inr is)) = word_free (codes "-") value refl is
vulnerable_free NorthSouth value is = word_free (codes "NS") value refl is
vulnerable_free EastWest value is = word_free (codes "EW") value refl is
vulnerable_free Both value (inl is) = word_free (codes "All") value refl is
vulnerable_free Both value (inr is) = word_free (codes "Both") value refl is

pub same_dealer : (place : Place) (written : List ℕ) →
    (IsDealerValue written place → IsDealerValue (read_value written) place) ×
    (IsDealerValue (read_value written) place → IsDealerValue written place)
same_dealer place = same_fact (λ value. IsDealerValue value place) (dealer_free place)

pub same_vulnerable : (vulnerability : Vulnerability) (written : List ℕ) →
    (IsVulnerableValue written vulnerability → IsVulnerableValue (read_value written) vulnerability) ×
    (IsVulnerableValue (read_value written) vulnerability → IsVulnerableValue written vulnerability)
same_vulnerable vulnerability = same_fact (λ value. IsVulnerableValue value vulnerability)
    (vulnerable_free vulnerability)

-- a text is free where its parts are
and_true : (one : Bool) → (one && true) ≡ one
and_true true = refl
and_true false = refl

ended_free : (part : List ℕ) (more : List (List ℕ)) → list_all are_free (ended_part part more) ≡
    (are_free part && list_all are_free more)
ended_free [] more = refl
ended_free (byte ∷ part) more = refl

abbrev choice : List ℕ → ℕ → List ℕ → Bool → List (List ℕ)
choice part byte bytes b = if b then ended_part part (parts_from [] bytes) else parts_from (part ++ byte ∷ []) bytes

parts_free : (part bytes : List ℕ) → list_all are_free (parts_from part bytes) ≡ are_free (part ++ bytes)
parts_free part [] = ended_free part [] ∙ and_true (are_free part) ∙ ap are_free (sym (append-nil part))
parts_free part (byte ∷ bytes) =
    elim (cases_Bool (byte == 32)) [
      | inl space ↦
          ap (λ b. list_all are_free (choice part byte bytes b)) space
          ∙ ended_free part (parts_from [] bytes)
          ∙ ap (λ b. are_free part && b) (parts_free [] bytes)
          ∙ ap (λ b. are_free part && (is_free b && are_free bytes)) (sym (eqb-true byte 32 space))
          ∙ sym (list_all-append is_free part (byte ∷ bytes))
      | inr other ↦
          ap (λ b. list_all are_free (choice part byte bytes b)) other
          ∙ parts_free (part ++ byte ∷ []) bytes
          ∙ ap are_free (append_assoc part (byte ∷ []) bytes)
    ]

all_free : (bytes : List ℕ) → All (λ byte. is_free byte ≡ true) bytes → are_free bytes ≡ true
all_free [] all = refl
all_free (byte ∷ bytes) all =
    ap (λ (b : Bool). b && are_free bytes) (all 0 0 (omega arith)) ∙ all_free bytes
    (λ k d h. all (suc k) d (omega (arith, h)))

rank_free : (rank : Rank) → is_free (rank_letter rank) ≡ true
rank_free = each_rank (λ rank. is_free (rank_letter rank) ≡ true) refl refl refl refl refl refl refl refl refl refl refl
    refl refl

named_free : (letter : ℕ) (rank : Rank) → Names letter rank → is_free letter ≡ true
named_free letter rank named = sym (upper_free letter) ∙ ap is_free named ∙ rank_free rank

hand_free : {cards : _} (text : List ℕ) → IsHandText cards text → are_free text ≡ true
hand_free {cards} text is = all_free text (hand_has (λ byte. is_free byte ≡ true) named_free refl cards text is)

form_free : (part : List ℕ) → IsHandForm part → are_free part ≡ true
form_free part is = all_free part (λ i d within. by_letter _ (is.each i d within))
  where
    by_letter : (byte : ℕ) → (byte ≡ 46) ⊎ IsRankLetter byte → is_free byte ≡ true
    by_letter byte (inl dot) = ap is_free dot
    by_letter byte (inr letter) = named_free byte letter.0 letter.1

part_free : (part : List ℕ) → IsPart part → are_free part ≡ true
part_free part (inl hyphen) = ap are_free hyphen
part_free part (inr form) = form_free part form

letter_free : (letter : ℕ) (place : Place) → to_ascii_uppercase letter ≡ place_letter place → is_free letter ≡ true
letter_free letter place e = sym (upper_free letter) ∙ ap is_free e ∙ by_place place
  where
    by_place : (place : Place) → is_free (place_letter place) ≡ true
    by_place North = refl
    by_place East = refl
    by_place South = refl
    by_place West = refl

four_free : (value : List ℕ) (first : Place) (own left opposite right : List ℕ) → HasParts value first own left opposite
    right →
    are_free own ≡ true → are_free left ≡ true → are_free opposite ≡ true → are_free right ≡ true →
    are_free value ≡ true
four_free value first own left opposite right has a b c d =
    sym (parts_free [] value) ∙ ap (list_all are_free) has.four
    ∙ (λ i. (letter_free has.letter first has.names i && (true && a i)) && (b i && (c i && (d i && true))))

deal_free : (hands : Hands) (value : List ℕ) → IsDealValue hands value → are_free value ≡ true
deal_free hands value is =
    four_free value is.first is.own is.left is.opposite is.right is.has
    (hand_free is.own is.is.is_own) (hand_free is.left is.is.is_left) (hand_free is.opposite is.is.is_opposite)
    (hand_free is.right is.is.is_right)

hidden_free : (value : List ℕ) → IsHiddenValue value → are_free value ≡ true
hidden_free value is =
    four_free value is.first is.own is.left is.opposite is.right is.has
    (part_free is.own is.hidden.is_own) (part_free is.left is.hidden.is_left)
    (part_free is.opposite is.hidden.is_opposite)
    (part_free is.right is.hidden.is_right)

pub same_deal : (hands : Hands) (written : List ℕ) →
    (IsDealValue hands written → IsDealValue hands (read_value written)) × (IsDealValue hands (read_value written) →
    IsDealValue hands written)
same_deal hands = same_fact (IsDealValue hands) (deal_free hands)

pub same_hidden : (written : List ℕ) → (IsHiddenValue written → IsHiddenValue (read_value written)) ×
    (IsHiddenValue (read_value written) → IsHiddenValue written)
same_hidden = same_fact IsHiddenValue hidden_free
