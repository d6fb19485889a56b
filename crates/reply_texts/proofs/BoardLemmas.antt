-- The text of a board, piece by piece.
use Rattle.std.proofs.Common.{◌≡◌, ℕ, List, [], ◌∷◌, ◌++◌, codes, append_assoc, map, refl, sym, ap, ◌∙◌}
use Rattle.std.specs.Prelude.{filter}
use Rattle.std.specs.FinSet as set
use Rattle.std.specs.Fmt.{decimal}
use Rattle.std.proofs.lemmas.Grind.{flat_map-append}
use Rattle.json.specs.Print.{escape_byte, escape, quoted}
use Rattle.serde_json.specs.Written.{compact_text}
use Rattle.table_terms.specs.declared.suit.Suit.{Suit}
use Rattle.table_terms.specs.declared.place.Place.{Place}
use Rattle.table_terms.specs.declared.place.Place.TheVariants.{North, East, South, West}
use Rattle.table_terms.specs.Place.{place_letter}
use Rattle.table_terms.specs.declared.vulnerability.Vulnerability.{Vulnerability}
use Rattle.table_terms.specs.declared.vulnerability.Vulnerability.TheVariants.{Neither, NorthSouth, EastWest, Both}
use Rattle.table_terms.specs.Vulnerability.{vulnerability_text}
use Rattle.cards.specs.declared.rank.Rank.{Rank}
use Rattle.cards.specs.Rank.{rank_letter, ranks_down}
use Rattle.cards.specs.Cards.{Cards}
use Rattle.cards.specs.CardBits.{each_rank}
use Rattle.cards.specs.Hands.{Hands}
use Rattle.cards.specs.HandText.{held_letters, hand_text, deal_text}
use Rattle.disclosure_rules.specs.declared.marks.Marks.{Marks}
use Rattle.reply_texts.specs.BoardText.{board_data}

-- ---- texts in which nothing is escaped

abbrev pub IsPlain : List ℕ → Type 0
IsPlain text = escape text ≡ text

plain_both : (first second : List ℕ) → IsPlain first → IsPlain second → IsPlain (first ++ second)
plain_both first second one two = flat_map-append escape_byte first second ∙ (λ i. one i ++ two i)

plain_rank : (rank : Rank) → escape_byte (rank_letter rank) ≡ rank_letter rank ∷ []
unfolding escape_byte
plain_rank = each_rank (λ rank. escape_byte (rank_letter rank) ≡ rank_letter rank ∷ []) refl refl refl refl refl
    refl refl refl refl refl refl refl refl

plain_ranks : (ranks : List Rank) → IsPlain (map rank_letter ranks)
plain_ranks [] = refl
plain_ranks (rank ∷ ranks) = λ i. plain_rank rank i ++ plain_ranks ranks i

plain_held : (cards : Cards) (suit : Suit) (ranks : List Rank) → IsPlain (held_letters cards suit ranks)
unfolding held_letters
plain_held cards suit ranks = plain_ranks (filter (λ rank. set.contains cards (record { suit = suit; rank = rank })) ranks)

plain_dot : IsPlain (codes ".")
unfolding escape_byte
plain_dot = refl

plain_space : IsPlain (codes " ")
unfolding escape_byte
plain_space = refl

plain_north : IsPlain (codes "N:")
unfolding escape_byte
plain_north = refl

-- behind a dot, or another plain text
plain_behind : (mark first rest : List ℕ) → IsPlain mark → IsPlain first → IsPlain rest → IsPlain (first ++ (mark ++ rest))
plain_behind mark first rest is one two = plain_both first (mark ++ rest) one (plain_both mark rest is two)

plain_hand : (cards : Cards) → IsPlain (hand_text cards)
plain_hand cards =
    let held = λ (suit : Suit). plain_held cards suit ranks_down in
    plain_behind _ _ _ plain_dot (held _) (plain_behind _ _ _ plain_dot (held _) (plain_behind _ _ _ plain_dot (held _) (held _)))

plain_deal : (hands : Hands) → IsPlain (deal_text hands)
plain_deal hands =
    plain_both _ _ plain_north
    (plain_behind _ _ _ plain_space (plain_hand hands.north)
    (plain_behind _ _ _ plain_space (plain_hand hands.east)
    (plain_behind _ _ _ plain_space (plain_hand hands.south) (plain_hand hands.west))))

plain_place : (place : Place) → IsPlain (place_letter place ∷ [])
unfolding escape_byte
plain_place North = refl
plain_place East = refl
plain_place South = refl
plain_place West = refl

plain_vulnerability : (vulnerability : Vulnerability) → IsPlain (vulnerability_text vulnerability)
unfolding escape_byte
plain_vulnerability Neither = refl
plain_vulnerability NorthSouth = refl
plain_vulnerability EastWest = refl
plain_vulnerability Both = refl

-- such a text between quotation marks
pub between_marks : (text : List ℕ) → IsPlain text → 34 ∷ (text ++ 34 ∷ []) ≡ quoted text
between_marks text is = sym (ap (λ (s : List ℕ). 34 ∷ (s ++ 34 ∷ [])) is)

-- ---- the pieces

-- of a board, of which these stand between quotation marks
abbrev pieces : ℕ → List ℕ → List ℕ → List ℕ → List ℕ
pieces number deal dealer vulnerability =
    codes "{\"deal\":" ++ (deal ++ (codes ",\"dealer\":" ++ (dealer ++ (codes ",\"number\":" ++ (decimal number
    ++ (codes ",\"vul\":" ++ (vulnerability ++ codes "}")))))))

pieces_quoted : (number : ℕ) (hands : Hands) (marks : Marks) →
    pieces number (quoted (deal_text hands)) (quoted (place_letter marks.dealer ∷ []))
    (quoted (vulnerability_text marks.vulnerability))
    ≡ compact_text (board_data number hands marks)
unfolding escape_byte
pieces_quoted number hands marks = refl

-- behind the deal, as it is written
abbrev pub behind_deal : ℕ → Marks → List ℕ
behind_deal number marks =
    codes "\",\"dealer\":\"" ++ (place_letter marks.dealer ∷ [] ++ (codes "\",\"number\":" ++ (decimal number
    ++ (codes ",\"vul\":\"" ++ (vulnerability_text marks.vulnerability ++ codes "\"}")))))

in_a_row : (number deal dealer vulnerability : List ℕ) →
    (codes "{\"deal\":\"" ++ deal) ++ (codes "\",\"dealer\":\"" ++ (dealer ++ (codes "\",\"number\":" ++ (number
    ++ (codes ",\"vul\":\"" ++ (vulnerability ++ codes "\"}"))))))
    ≡ codes "{\"deal\":" ++ ((34 ∷ (deal ++ 34 ∷ [])) ++ (codes ",\"dealer\":" ++ ((34 ∷ (dealer ++ 34 ∷ []))
    ++ (codes ",\"number\":" ++ (number ++ (codes ",\"vul\":" ++ ((34 ∷ (vulnerability ++ 34 ∷ [])) ++ codes "}")))))))
in_a_row number deal dealer vulnerability = simp append_assoc

pub board_pieces : (number : ℕ) (hands : Hands) (marks : Marks) →
    (codes "{\"deal\":\"" ++ deal_text hands) ++ behind_deal number marks ≡ compact_text (board_data number hands marks)
board_pieces number hands marks =
    in_a_row (decimal number) (deal_text hands) (place_letter marks.dealer ∷ []) (vulnerability_text marks.vulnerability)
    ∙ (λ i. pieces number (between_marks (deal_text hands) (plain_deal hands) i)
    (between_marks (place_letter marks.dealer ∷ []) (plain_place marks.dealer) i)
    (between_marks (vulnerability_text marks.vulnerability) (plain_vulnerability marks.vulnerability) i))
    ∙ pieces_quoted number hands marks

-- ---- one letter more

-- what is written behind a text, with more behind that
pub written_behind : (before so_far more whole now was letter : List ℕ) → now ≡ was ++ letter → was ≡ before ++ so_far →
    letter ≡ more → whole ≡ so_far ++ more → now ≡ before ++ whole
written_behind before so_far more whole now was letter one two same is =
    one ∙ (λ i. two i ++ same i) ∙ append_assoc before so_far more ∙ ap (λ s. before ++ s) (sym is)

-- ---- a deal behind a text

in_turn : (before north east south west : List ℕ) →
    (((((((before ++ codes "N:") ++ north) ++ codes " ") ++ east) ++ codes " ") ++ south) ++ codes " ") ++ west
    ≡ before ++ (codes "N:" ++ (north ++ (codes " " ++ (east ++ (codes " " ++ (south ++ (codes " " ++ west)))))))
in_turn before north east south west = simp append_assoc

pub deal_behind : (before : List ℕ) (hands : Hands) →
    (((((((before ++ codes "N:") ++ hand_text hands.north) ++ codes " ") ++ hand_text hands.east) ++ codes " ") ++ hand_text hands.south)
    ++ codes " ") ++ hand_text hands.west ≡ before ++ deal_text hands
deal_behind before hands = in_turn before (hand_text hands.north) (hand_text hands.east) (hand_text hands.south) (hand_text hands.west)
