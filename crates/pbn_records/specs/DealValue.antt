-- The value of the tag Deal (PBN 2.1, in this project's profile): a player's letter, a colon, and the hands clockwise
-- from there.
use Rattle.std.specs.Prelude.{
  ◌≡◌,
  ◌==◌,
  ℕ,
  List,
  [],
  ◌∷◌,
  ◌++◌,
  if◌then◌else◌,
  All,
  count_by,
  codes,
  nat_eq,
  ◌⊎◌,
  Option,
  Some,
  None,
}
use Rattle.std.specs.Char.{to_ascii_uppercase}
use Rattle.table_terms.specs.declared.place.Place.{Place}
use Rattle.cards.specs.declared.rank.Rank.{Rank}
use Rattle.table_terms.specs.Place.{place_letter, left_of, partner_of}
use Rattle.cards.specs.Hands.{Hands, hand_of, IsDeal}
use Rattle.pbn_pieces.specs.Bytes.{space}
use Rattle.pbn_records.specs.Bytes.{dot, colon}
use Rattle.cards.specs.HandReading.{Names, IsHandText}

-- a part that has come to its end: it has at least one byte
abbrev pub ended_part : List ℕ → List (List ℕ) → List (List ℕ)
ended_part [] parts = parts
ended_part (byte ∷ part) parts = (byte ∷ part) ∷ parts

-- the parts of a text between its spaces, where the first has these bytes already
abbrev pub parts_from : List ℕ → List ℕ → List (List ℕ)
parts_from part [] = ended_part part []
parts_from part (byte ∷ bytes) = if byte == space
    then ended_part part (parts_from [] bytes) else parts_from (part ++ byte ∷ []) bytes

-- the parts of a text between its spaces
abbrev pub parts : List ℕ → List (List ℕ)
parts text = parts_from [] text

-- the value is a player's letter in either case, a colon, and four parts, clockwise from that player's
pub record HasParts (value : List ℕ) (first : Place) (own left opposite right : List ℕ) : Type 0 where
  pub letter : ℕ
  pub names : to_ascii_uppercase letter ≡ place_letter first
  pub four : parts value ≡ (letter ∷ colon ∷ own) ∷ left ∷ opposite ∷ right ∷ []

-- the parts are the texts of the hands of a deal, clockwise from a player's
pub record IsDealOf (hands : Hands) (first : Place) (own left opposite right : List ℕ) : Type 0 where
  pub is_own : IsHandText (hand_of hands first) own
  pub is_left : IsHandText (hand_of hands (left_of first)) left
  pub is_opposite : IsHandText (hand_of hands (partner_of first)) opposite
  pub is_right : IsHandText (hand_of hands (partner_of (left_of first))) right
  pub deal : IsDeal hands

-- the value is a deal's
pub record IsDealValue (hands : Hands) (value : List ℕ) : Type 0 where
  pub first : Place
  pub own : List ℕ
  pub left : List ℕ
  pub opposite : List ℕ
  pub right : List ℕ
  pub has : HasParts value first own left opposite right
  pub is : IsDealOf hands first own left opposite right

-- a letter of a rank, in either case
abbrev pub IsRankLetter : ℕ → Type 0
IsRankLetter letter = (rank : Rank) × Names letter rank

-- four lists of rank letters with a dot between them, by form alone
pub record IsHandForm (part : List ℕ) : Type 0 where
  pub each : All (λ byte. (byte ≡ dot) ⊎ IsRankLetter byte) part
  pub dots : count_by (nat_eq dot) part ≡ 3

-- a hand that isn't shown, or the form of one that is
abbrev pub IsPart : List ℕ → Type 0
IsPart part = (part ≡ codes "-") ⊎ IsHandForm part

-- some of the parts are hands that aren't shown, and the others have a hand's form
pub record AreHidden (own left opposite right : List ℕ) : Type 0 where
  pub some : (own ≡ codes "-") ⊎ (left ≡ codes "-") ⊎ (opposite ≡ codes "-") ⊎ (right ≡ codes "-")
  pub is_own : IsPart own
  pub is_left : IsPart left
  pub is_opposite : IsPart opposite
  pub is_right : IsPart right

-- the value has a hand that isn't shown
pub record IsHiddenValue (value : List ℕ) : Type 0 where
  pub first : Place
  pub own : List ℕ
  pub left : List ℕ
  pub opposite : List ℕ
  pub right : List ℕ
  pub has : HasParts value first own left opposite right
  pub hidden : AreHidden own left opposite right

-- ---- for private clauses

-- the parts, if there are four
abbrev pub four_of : List (List ℕ) → Option (List (List ℕ))
four_of [] = None
four_of (a ∷ []) = None
four_of (a ∷ b ∷ []) = None
four_of (a ∷ b ∷ c ∷ []) = None
four_of (a ∷ b ∷ c ∷ d ∷ []) = Some (a ∷ b ∷ c ∷ d ∷ [])
four_of (a ∷ b ∷ c ∷ d ∷ e ∷ more) = None
