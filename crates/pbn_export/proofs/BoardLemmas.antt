-- The game of a board: its values, and that it has no fault.
use Rattle.std.proofs.Common.{◌≡◌, ◌≢◌, ℕ, suc, zero, ◌+◌, ◌<◌, ◌≤◌, Bool, true, false, List, [], ◌∷◌, refl, sym, ap, subst, ◌∙◌, arith, inl, inr}
use Rattle.std.specs.Prelude.{◌==◌, ◌&&◌, not, nat_eq, nat_le, Option, Some, None, if◌then◌else◌, codes}
use Rattle.std.specs.Fmt.{decimal, digits}
use Rattle.std.specs.List.{list_all, range_with_len}
use Rattle.std.proofs.lemmas.Bool.{true≢false, and_parts, and_from, cases_Bool, eqb-true, eq-eqb}
use Rattle.cards.specs.Hands.{IsDeal}
use Rattle.cards.specs.HandText.{deal_text}
use Rattle.table_terms.specs.Place.{place_letter}
use Rattle.table_terms.specs.declared.place.Place.{Place}
use Rattle.table_terms.specs.declared.place.Place.TheVariants.{North, East, South, West}
use Rattle.table_terms.specs.declared.vulnerability.Vulnerability.{Vulnerability}
use Rattle.table_terms.specs.declared.vulnerability.Vulnerability.TheVariants.{Neither, NorthSouth, EastWest, Both}
use Rattle.pbn_records.specs.Boards.{are_digits, decimal_number, board_number, is_there, number_in, game_board, HasDeal, IsRead}
use Rattle.pbn_records.specs.Boards.{first_game}
use Rattle.pbn_records.specs.Faults.{DealFault, BoardFault, FaultAtTag, first_game_if_any, IsFaultOf}
use Rattle.pbn_records.specs.MarkValue.{is_open, IsDealerValue, IsVulnerableValue, ReadsDealer, ReadsVulnerable}
use Rattle.pbn_records.specs.MarkValue.{IsBadDealer, IsBadVulnerable}
use Rattle.pbn_pieces.proofs.CutLemmas.{some_same}
use Rattle.pbn_records.specs.Kept.{HasTagFault}
use Rattle.pbn_records.specs.Tags.{Valued, used_of}
use Rattle.pbn_records.proofs.FaultLemmas.{first_of_four, no_deal_fault}
use Rattle.pbn_records.specs.Values.{Values, values_of, is_inherited_form}
use Rattle.pbn_export.specs.Games.{ExportedBoard, board_game, vulnerable_word}
use Rattle.pbn_export.specs.Export.{is_further}
use Rattle.pbn_export.proofs.DealLemmas.{deal_itself, deal_value, shown_deal}
use Rattle.pbn_export.proofs.GameLemmas.{is_own, HasValue, has_own, read_so, AreFresh, further_fresh}
use Rattle.pbn_export.proofs.MarkLemmas.{placed_tags}

-- ---- numbers

-- whether a number that is written is read as it is, and is that number
abbrev pub is_read_back : ℕ → Bool
is_read_back n =
    is_own (decimal n) && ((are_digits (decimal n) && nat_eq (decimal_number (decimal n)) n)
    && not (is_inherited_form (decimal n)))

each_read_back : list_all is_read_back (range_with_len 1 128) ≡ true
unfolding digits
each_read_back = refl

at_number : (test : ℕ → Bool) (first many k : ℕ) → list_all test (range_with_len first many) ≡ true → first ≤ k →
    k < first + many → test k ≡ true
at_number test first zero k all from to = absurd (omega (arith, from, to))
at_number test first (suc many) k all from to =
    let both = and_parts (test first) (list_all test (range_with_len (first + 1) many)) all in
    elim (cases_Bool (first == k)) [
      | inl same ↦ subst (λ n. test n ≡ true) (eqb-true first k same) both.0
      | inr other ↦ at_number test (first + 1) many k both.1 (later other) (omega (arith, to))
    ]
  where
    later : (first == k) ≡ false → first + 1 ≤ k
    later other =
        let differs : first ≢ k = λ e. true≢false (sym (eq-eqb first k e) ∙ other) in omega (arith, from, differs)

pub read_back : (n : ℕ) → 1 ≤ n → n ≤ 128 → is_read_back n ≡ true
read_back n from to = at_number is_read_back 1 128 n each_read_back from (omega (arith, to))

-- ---- values

place_own : (place : Place) → is_own (place_letter place ∷ []) ≡ true
place_own North = refl
place_own East = refl
place_own South = refl
place_own West = refl

word_own : (vulnerability : Vulnerability) → is_own (vulnerable_word vulnerability) ≡ true
word_own Neither = refl
word_own NorthSouth = refl
word_own EastWest = refl
word_own Both = refl

-- the values of a board's game: of the used tag with this name
pub record IsValued (b : ExportedBoard) (values : Values) : Type 0 where
  pub number : (used : _) → used_of (codes "Board") ≡ Some used → HasValue (values used) (decimal b.number)
  pub dealer : (used : _) → used_of (codes "Dealer") ≡ Some used →
      HasValue (values used) (place_letter b.board.dealer ∷ [])
  pub marking : (used : _) → used_of (codes "Vulnerable") ≡ Some used →
      HasValue (values used) (vulnerable_word b.board.vulnerability)
  pub deal : (used : _) → used_of (codes "Deal") ≡ Some used → HasValue (values used) (deal_text b.board.deal)

pub board_valued : (before : Values) (offset : ℕ) (b : ExportedBoard) → is_read_back b.number ≡ true →
    IsValued b (values_of before (placed_tags offset (board_game b)))
board_valued before offset b back =
    let values = values_of before (placed_tags offset (board_game b)) in
    let number = decimal b.number in
    let dealer = place_letter b.board.dealer ∷ [] in
    let marking = vulnerable_word b.board.vulnerability in
    let deal = deal_text b.board.deal in
    record {
      number = λ used is. subst (λ u. HasValue (values u) number) (some_same _ used is)
          (has_own (before _) _ number (and_parts (is_own number) _ back).0);
      dealer = λ used is. subst (λ u. HasValue (values u) dealer) (some_same _ used is)
          (has_own (before _) _ dealer (place_own b.board.dealer));
      marking = λ used is. subst (λ u. HasValue (values u) marking) (some_same _ used is)
          (has_own (before _) _ marking (word_own b.board.vulnerability));
      deal = λ used is. subst (λ u. HasValue (values u) deal) (some_same _ used is)
          (has_own (before _) _ deal (and_from _ true (deal_itself b.board.deal) refl));
    }

-- no tag of a board's game stands there twice
pub board_fresh : (offset : ℕ) (b : ExportedBoard) → list_all is_further b.further ≡ true →
    AreFresh [] (placed_tags offset (board_game b))
board_fresh offset b further = (
  refl,
  (
    refl,
    (
      refl,
      (
        refl,
        (
          refl,
          (
            refl,
            (
              refl,
              (
                refl,
                (
                  refl,
                  (
                    refl,
                    (
                      refl,
                      (
                        refl,
                        (
                          refl,
                          (
                            refl,
                            (
                              refl,
                              further_fresh _ _ b.further further,
                            ),
                          ),
                        ),
                      ),
                    ),
                  ),
                ),
              ),
            ),
          ),
        ),
      ),
    ),
  ),
)

-- ---- what is read

false_of : (b : Bool) → not b ≡ true → b ≡ false
false_of true is = absurd (cc)
false_of false is = refl

number_is : (boards n : ℕ) → is_read_back n ≡ true → 1 ≤ n → n ≤ boards → board_number boards (decimal n) ≡ Some n
number_is boards n back from to =
    let rest = (and_parts (is_own (decimal n)) _ back).1 in
    let read = (and_parts (are_digits (decimal n) && nat_eq (decimal_number (decimal n)) n) _ rest).0 in
    let both = and_parts (are_digits (decimal n)) _ read in
    let same : decimal_number (decimal n) ≡ n = eqb-true (decimal_number (decimal n)) n both.1 in
    let low : nat_le 1 n ≡ true = grind (arith, from) in
    let high : nat_le n boards ≡ true = grind (arith, to) in
    (λ i. if both.0 i && (nat_le 1 (same i) && nat_le (same i) boards) then Some (same i) else None)
    ∙ ap (λ (b : Bool). if b then Some n else None) (and_from (nat_le 1 n) (nat_le n boards) low high)

-- the board of a game with these values of its Deal and its Board
abbrev pub board_by : ℕ → Option Valued → Option Valued → Option ℕ
board_by boards deal number = if is_there deal then number_in boards number else None

-- the game is that of its board
pub game_is : (boards : ℕ) (b : ExportedBoard) (values : Values) → IsValued b values → is_read_back b.number ≡ true →
    1 ≤ b.number → b.number ≤ boards → game_board boards values ≡ Some b.number
game_is boards b values valued back from to =
    let deal = valued.deal _ refl in
    let number = valued.number _ refl in
    (λ i. board_by boards (deal.is i) (number.is i)) ∙ number_is boards b.number back from to

dealer_is : (place : Place) → IsDealerValue (place_letter place ∷ []) place
dealer_is North = refl
dealer_is East = refl
dealer_is South = refl
dealer_is West = refl

dealer_there : (place : Place) → is_open (place_letter place ∷ []) ≡ false
dealer_there North = refl
dealer_there East = refl
dealer_there South = refl
dealer_there West = refl

marking_is : (vulnerability : Vulnerability) → IsVulnerableValue (vulnerable_word vulnerability) vulnerability
marking_is Neither = inl refl
marking_is NorthSouth = refl
marking_is EastWest = refl
marking_is Both = inl refl

marking_there : (vulnerability : Vulnerability) → is_open (vulnerable_word vulnerability) ≡ false
marking_there Neither = refl
marking_there NorthSouth = refl
marking_there EastWest = refl
marking_there Both = refl

pub board_read : (b : ExportedBoard) (values : Values) → IsValued b values → IsDeal b.board.deal →
    IsRead b.number values b.board
board_read b values valued deal = record {
  deal = subst (λ o. HasDeal o b.board.deal) (sym (valued.deal _ refl).is) (deal_value b.board.deal deal);
  dealer = subst (λ o. ReadsDealer b.number o b.board.dealer) (sym (valued.dealer _ refl).is)
      ((λ unsaid. absurd (true≢false (sym unsaid ∙ dealer_there b.board.dealer))), (λ _. dealer_is b.board.dealer));
  vulnerability = subst (λ o. ReadsVulnerable b.number o b.board.vulnerability) (sym (valued.marking _ refl).is) (
    (λ unsaid. absurd (true≢false (sym unsaid ∙ marking_there b.board.vulnerability))),
    (λ _. marking_is b.board.vulnerability),
  );
}

-- ---- faults

marking_plain : (vulnerability : Vulnerability) → is_inherited_form (vulnerable_word vulnerability) ≡ false
marking_plain Neither = refl
marking_plain NorthSouth = refl
marking_plain EastWest = refl
marking_plain Both = refl

-- where a tag of a board without an earlier game has a fault, and its value begins with no `##`, it is one of the value
tag_fault : (number : ℕ) (name : List ℕ) (used : _) → used_of name ≡ Some used → (o : Option Valued) (value : List ℕ)
    (fault : _) (offset : ℕ) → HasValue o value → is_inherited_form value ≡ false →
    FaultAtTag (Some number) None used o fault offset → BoardFault None used value fault
tag_fault number name used named o value fault offset has plain at =
    let moved = subst (λ tag. FaultAtTag (Some number) None used tag fault offset) has.is at in (moved.1.1 plain).1

-- what is written of a dealer and of a marking is one
no_bad_dealer : (place : Place) → ¬ IsBadDealer (place_letter place ∷ [])
no_bad_dealer place bad = bad.none place (dealer_is place)

no_bad_marking : (vulnerability : Vulnerability) → ¬ IsBadVulnerable (vulnerable_word vulnerability)
no_bad_marking vulnerability bad = bad.none vulnerability (marking_is vulnerability)

-- a game of a board that has no game before it has no fault
pub no_board_fault : (boards : ℕ) (before : List Values) (b : ExportedBoard) (values : Values) → IsValued b values →
    IsDeal b.board.deal → is_read_back b.number ≡ true → 1 ≤ b.number → b.number ≤ boards →
    first_game boards b.number before ≡ None → (fault : _) (offset : ℕ) → ¬ IsFaultOf boards before values fault offset
no_board_fault boards before b values valued deal back from to first fault offset is =
    let n = b.number in
    let hands = b.board.deal in
    let plain : is_inherited_form (decimal n) ≡ false =
    false_of _ (and_parts (are_digits (decimal n) && nat_eq (decimal_number (decimal n)) n) _
    (and_parts (is_own (decimal n)) _ back).1).1 in
    let a = subst (λ g. HasTagFault g (first_game_if_any boards before g) values fault offset)
    (game_is boards b values valued back from to) is in
    let moved = subst (λ f. HasTagFault (Some n) f values fault offset) first a in
    first_of_four (Some n) None values None None None None None
    (λ f o at. tag_fault n (codes "Board") _ refl _ (decimal n) f o (valued.number _ refl) plain at)
    (λ f o at. no_bad_dealer b.board.dealer
    (tag_fault n (codes "Dealer") _ refl _ (place_letter b.board.dealer ∷ []) f o (valued.dealer _ refl) refl at).2)
    (λ f o at. no_bad_marking b.board.vulnerability
    (tag_fault n (codes "Vulnerable") _ refl _ (vulnerable_word b.board.vulnerability) f o (valued.marking _ refl)
    (marking_plain b.board.vulnerability) at).2)
    (λ f o at. no_deal_fault (deal_text hands) hands None None (deal_value hands deal)
    (shown_deal hands (deal_text hands) (deal_value hands deal)) tt (λ e. e) f
    (subst (λ value. DealFault None value f) (sym (read_so (deal_text hands) (deal_itself hands)))
    (tag_fault n (codes "Deal") _ refl _ (deal_text hands) f o (valued.deal _ refl) refl at)))
    refl fault offset moved
