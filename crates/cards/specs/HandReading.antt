-- How a hand and a deal are read: the tag Deal of PBN 2.1, with the cards of a suit in any order, each letter in either
-- case, and any player's hand first.
use Rattle.std.specs.Prelude.{
  ◌≡◌,
  ℕ,
  Bool,
  nat_eq,
  List,
  ◌∷◌,
  ◌++◌,
  All,
  count_by,
  codes,
  if◌then◌else◌,
  Result,
  IfOk,
  IfErr,
  OnErr,
}
use Rattle.std.specs.Char.{to_ascii_uppercase}
use Rattle.std.specs.FinSet as set
use Rattle.table_terms.specs.declared.suit.Suit.{Suit}
use Rattle.table_terms.specs.declared.suit.Suit.TheVariants.{Spades, Hearts, Diamonds, Clubs}
use Rattle.cards.specs.declared.rank.Rank.{Rank}
use Rattle.table_terms.specs.declared.place.Place.{Place}
use Rattle.cards.specs.declared.hand_reading.NotAHand.{NotAHand}
use Rattle.cards.specs.declared.deal_reading.DealTextError.{DealTextError}
use Rattle.cards.specs.declared.deal_reading.DealTextError.TheVariants.{NotADealText, NotADeal}
use Rattle.cards.specs.Rank.{rank_letter}
use Rattle.table_terms.specs.Place.{place_letter, left_of, partner_of}
use Rattle.cards.specs.Cards.{Cards}
use Rattle.cards.specs.Hands.{Hands, hand_of, IsDeal}

-- a letter names a rank in either case: `Q` and `q` name the queen
abbrev pub Names : ℕ → Rank → Type 0
Names letter rank = to_ascii_uppercase letter ≡ rank_letter rank

-- whether a letter names the rank
abbrev pub names : Rank → ℕ → Bool
names rank letter = nat_eq (to_ascii_uppercase letter) (rank_letter rank)

-- the letters name what the cards have in a suit: in any order, each card once
pub record IsHoldingText (cards : Cards) (suit : Suit) (letters : List ℕ) : Type 0 where
  pub each : All (λ letter. (rank : Rank) × Names letter rank) letters
  pub held : (rank : Rank) →
      count_by (names rank) letters ≡ (if set.contains cards (record { suit = suit; rank = rank }) then 1 else 0)

-- the suits of a hand, from the spades down, with a dot between them
pub record IsHandText (cards : Cards) (text : List ℕ) : Type 0 where
  pub spades : List ℕ
  pub hearts : List ℕ
  pub diamonds : List ℕ
  pub clubs : List ℕ
  pub joined : text ≡ spades ++ (codes "." ++ (hearts ++ (codes "." ++ (diamonds ++ (codes "." ++ clubs)))))
  pub in_spades : IsHoldingText cards Spades spades
  pub in_hearts : IsHoldingText cards Hearts hearts
  pub in_diamonds : IsHoldingText cards Diamonds diamonds
  pub in_clubs : IsHoldingText cards Clubs clubs

-- what reading a text as a hand gives: the hand whose text it is, or an error where it is no hand's
abbrev pub ReadsHand : List ℕ → Result Cards NotAHand → Type 0
ReadsHand text read = IfOk read (λ hand. IsHandText hand text) × OnErr read ((cards : Cards) → ¬ IsHandText cards text)

-- the letter of one player and a colon, and the four hands clockwise from that player's, with a space between them
pub record IsDealText (hands : Hands) (text : List ℕ) : Type 0 where
  pub first : Place
  pub own : List ℕ
  pub left : List ℕ
  pub opposite : List ℕ
  pub right : List ℕ
  pub joined : text ≡ place_letter first ∷ codes ":"
      ++ (own ++ (codes " " ++ (left ++ (codes " " ++ (opposite ++ (codes " " ++ right))))))
  pub is_own : IsHandText (hand_of hands first) own
  pub is_left : IsHandText (hand_of hands (left_of first)) left
  pub is_opposite : IsHandText (hand_of hands (partner_of first)) opposite
  pub is_right : IsHandText (hand_of hands (partner_of (left_of first))) right

-- why a text is refused as a deal's: it is that of no four hands, or of four hands that are no deal
abbrev pub IsRefusedFor : DealTextError → List ℕ → Type 0
IsRefusedFor NotADealText text = (hands : Hands) → ¬ IsDealText hands text
IsRefusedFor NotADeal text = (hands : Hands) × IsDealText hands text × ¬ IsDeal hands

-- what reading a text as a deal gives: the deal whose text it is, or why it is none's
abbrev pub ReadsDeal : List ℕ → Result Hands DealTextError → Type 0
ReadsDeal text read =
    IfOk read (λ deal. IsDealText deal text) × IfOk read IsDeal × IfErr read (λ error. IsRefusedFor error text)
