-- The faults of a Deal and of a tag, by what the reader finds.
use Rattle.std.proofs.Common.{◌≡◌, ◌≢◌, ℕ, Bool, true, false, ◌⊎◌, inl, inr, List, refl, sym, ap, subst, ◌∙◌, arith}
use Rattle.std.specs.Prelude.{Option, Some, None, IfSome, IfNone, nat_le, not, ◌==◌, ◌&&◌, if◌then◌else◌}
use Rattle.std.proofs.lemmas.Bool.{true≢false, cases_Bool, cond_both, eqb-true, and_parts, leb-true, leb-false}
use Rattle.std.specs.Option.{is_some}
use Rattle.cards.specs.Hands.{Hands}
use Rattle.cards.specs.Cards.{Cards, bits_of_cards, cards_of_bits}
use Rattle.cards.proofs.CardBitsLemmas.{cards_of_bits-bits_of_cards}
use Rattle.pbn_records.specs.declared.used.Used.{Used}
use Rattle.pbn_records.specs.declared.used.Used.TheVariants as used
use Rattle.pbn_records.specs.declared.board.Board.{Board}
use Rattle.pbn_records.specs.declared.fault.FaultAt.{FaultAt}
use Rattle.pbn_records.specs.declared.fault.Fault.{Fault}
use Rattle.pbn_records.specs.declared.fault.Fault.TheVariants.{
  BadTag,
  BadDeal,
  HiddenHand,
  BadMark,
  DealConflict,
  InheritedForm,
}
use Rattle.pbn_records.specs.Tags.{Valued}
use Rattle.pbn_records.specs.Values.{Values, read_value, is_inherited_form}
use Rattle.pbn_records.specs.DealValue.{IsDealValue, IsHiddenValue}
use Rattle.pbn_records.specs.Boards.{HasDeal, game_board, is_there, number_in}
use Rattle.pbn_records.specs.declared.tag_at.TagAt.{TagAt}
use Rattle.pbn_records.specs.Shown.{as_written, as_read}
use Rattle.pbn_records.specs.Faults.{IsConflict, DealFault, BoardFault, FaultAtTag}
use Rattle.pbn_records.specs.Kept.{IsOther, KnowsDeal, Finds, earlier_of, HasTagFault, HasBadDealer, HasBadVulnerable}
use Rattle.pbn_records.proofs.EscapeLemmas.{same_form}
use Rattle.pbn_records.proofs.FreeLemmas.{same_deal, same_hidden}
use Rattle.pbn_records.proofs.PartsLemmas.{one_deal}

pub deal_fault_read : (written : List ℕ) (first : Option Values) (fault : Fault) → DealFault None written fault →
    DealFault first (read_value written) fault
deal_fault_read written first BadTag is = is
deal_fault_read written first BadDeal is =
    ((λ hidden. is.0 ((same_hidden written).1 hidden)), (λ deal deals. is.1 deal ((same_deal deal written).1 deals)))
deal_fault_read written first HiddenHand is = (same_hidden written).0 is
deal_fault_read written first BadMark is = is
deal_fault_read written first DealConflict is = absurd is.2
deal_fault_read written first InheritedForm is = is

pub conflict_read : (written : List ℕ) (deal : Hands) (first : Option Values) (known : Option Board) →
    IsDealValue deal written →
    KnowsDeal first known → IsOther known deal → DealFault first (read_value written) DealConflict
conflict_read written deal None None is knows other = absurd other
conflict_read written deal None (Some board) is knows other = absurd knows
conflict_read written deal (Some values) None is knows other = absurd other
conflict_read written deal (Some values) (Some board) is knows other = (
  deal,
  (same_deal deal written).0 is,
  (board.deal, knows, other),
)

pub same_has : (tag : Option Valued) (one other : Hands) → HasDeal tag one → HasDeal tag other → one ≡ other
same_has None one other a b = absurd a
same_has (Some tag) one other a b = one_deal tag.value one other a b

no_conflict : (written : List ℕ) (deal other : Hands) (first : Option Values) (known : Option Board) →
    IsDealValue deal written →
    IsDealValue other (read_value written) → KnowsDeal first known → (¬ IsOther known deal) → ¬ IsConflict first other
no_conflict written deal other None known is has knows same conflict = conflict
no_conflict written deal other (Some values) None is has knows same conflict = knows
no_conflict written deal other (Some values) (Some board) is has knows same conflict =
    same (λ e. conflict.2
    (same_has (values used.Deal) conflict.0 board.deal conflict.1 knows ∙ e ∙ one_deal written deal other is
    ((same_deal other written).1 has)))

pub no_deal_fault : (written : List ℕ) (deal : Hands) (first : Option Values) (known : Option Board) →
    IsDealValue deal written →
    (¬ IsHiddenValue written) → KnowsDeal first known → (¬ IsOther known deal) → (fault : Fault) → ¬ DealFault first
    (read_value written) fault
no_deal_fault written deal first known is shown knows same BadTag fault = fault
no_deal_fault written deal first known is shown knows same BadDeal fault = fault.1 deal ((same_deal deal written).0 is)
no_deal_fault written deal first known is shown knows same HiddenHand fault = shown ((same_hidden written).1 fault)
no_deal_fault written deal first known is shown knows same BadMark fault = fault
no_deal_fault written deal first known is shown knows same DealConflict fault = no_conflict written deal fault.0 first
    known is fault.1 knows same fault.2
no_deal_fault written deal first known is shown knows same InheritedForm fault = fault

-- the same, of what the reader finds
pub some_conflict : (written : List ℕ) (deal : Hands) (known : Option Board) (found : Option Fault) →
    IsDealValue deal written →
    IfSome found (λ fault. (fault ≡ DealConflict) × IsOther known deal) →
    IfSome found (λ fault. (first : Option Values) → KnowsDeal first known → DealFault first (read_value written) fault)
some_conflict written deal known None is found = found
some_conflict written deal known (Some fault) is found = λ first knows.
    subst (DealFault first (read_value written)) (sym found.0) (conflict_read written deal first known is knows found.1)

pub no_conflicts : (written : List ℕ) (deal : Hands) (known : Option Board) (found : Option Fault) →
    IsDealValue deal written →
    (¬ IsHiddenValue written) → IfNone found (¬ IsOther known deal) →
    IfNone found ((first : Option Values) → KnowsDeal first known → (fault : Fault) → ¬ DealFault first
    (read_value written) fault)
no_conflicts written deal known None is shown same = λ first knows. no_deal_fault written deal first known is shown
    knows same
no_conflicts written deal known (Some fault) is shown same = same

same_cards : (one other : Cards) → (bits_of_cards one == bits_of_cards other) ≡ true → one ≡ other
same_cards one other e =
    sym (cards_of_bits-bits_of_cards one) ∙ ap cards_of_bits (eqb-true _ _ e) ∙ cards_of_bits-bits_of_cards other

-- two deals that are equal by the test are one
pub same_hands : (one other : Hands) →
    ((bits_of_cards one.north == bits_of_cards other.north) && ((bits_of_cards one.east == bits_of_cards other.east) &&
    ((bits_of_cards one.south == bits_of_cards other.south) && (bits_of_cards one.west == bits_of_cards other.west)))) ≡
    true →
    one ≡ other
same_hands one other e =
    let first = and_parts _ _ e in
    let second = and_parts _ _ first.1 in
    let third = and_parts _ _ second.1 in
    λ i. record {
      north = same_cards one.north other.north first.0 i;
      east = same_cards one.east other.east second.0 i;
      south = same_cards one.south other.south third.0 i;
      west = same_cards one.west other.west third.1 i;
    }

pub not_other : (known : Option Board) (board : Board) (deal : Hands) → known ≡ Some board → board.deal ≡ deal →
    ¬ IsOther known deal
not_other known board deal is same = subst (λ known. ¬ IsOther known deal) (sym is) (λ other. other same)

-- the fault of a tag, by its value as written
pub finds_form : (board : Option ℕ) (first : Option Values) (used : Used) (offset : ℕ) (written : List ℕ) →
    is_inherited_form written ≡ true →
    Finds (Some (record { offset = offset; fault = InheritedForm }))
    (FaultAtTag board first used (Some (record { offset = offset; value = read_value written })))
finds_form board first used offset written form = (
  (refl, ((λ is. refl), (λ isnt. absurd (true≢false (sym form ∙ sym (same_form written) ∙ isnt))))),
  (λ fault place is. omega (arith, is.0)),
)

pub finds_none_of_no_board : (first : Option Values) (used : Used) (offset : ℕ) (written : List ℕ) (board : Option ℕ) →
    board ≡ None →
    is_inherited_form written ≡ false →
    Finds None (FaultAtTag board first used (Some (record { offset = offset; value = read_value written })))
finds_none_of_no_board first used offset written board none form = λ fault place is.
    (is.1.1 (same_form written ∙ form)).0 none

pub finds_fault : (board : Option ℕ) (first : Option Values) (used : Used) (offset : ℕ) (written : List ℕ)
    (fault : Fault) → board ≢ None →
    is_inherited_form written ≡ false → BoardFault first used (read_value written) fault →
    Finds (Some (record { offset = offset; fault = fault }))
    (FaultAtTag board first used (Some (record { offset = offset; value = read_value written })))
finds_fault board first used offset written fault some form is = (
  (refl, ((λ e. absurd (true≢false (sym e ∙ same_form written ∙ form))), (λ e. (some, is)))),
  (λ fault place is. omega (arith, is.0)),
)

pub finds_none : (board : Option ℕ) (first : Option Values) (used : Used) (offset : ℕ) (written : List ℕ) →
    is_inherited_form written ≡ false → ((fault : Fault) → ¬ BoardFault first used (read_value written) fault) →
    Finds None (FaultAtTag board first used (Some (record { offset = offset; value = read_value written })))
finds_none board first used offset written form none = λ fault place is. none fault
    (is.1.1 (same_form written ∙ form)).1

-- the earlier of two first faults is the first of all
pub earlier_finds : (P Q : Fault → ℕ → Type 0) (one other : Option FaultAt) → Finds one P → Finds other Q →
    Finds (earlier_of one other) (λ fault offset. P fault offset ⊎ Q fault offset)
earlier_finds P Q None None p q = λ fault offset is. elim is [ inl a ↦ p fault offset a | inr b ↦ q fault offset b ]
earlier_finds P Q None (Some other) p q =
    (inr q.0, (λ fault offset is. elim is [ inl a ↦ absurd (p fault offset a) | inr b ↦ q.1 fault offset b ]))
earlier_finds P Q (Some one) None p q =
    (inl p.0, (λ fault offset is. elim is [ inl a ↦ p.1 fault offset a | inr b ↦ absurd (q fault offset b) ]))
earlier_finds P Q (Some one) (Some other) p q =
    cond_both (nat_le one.offset other.offset) (Some one) (Some other)
    (λ found. Finds found (λ fault offset. P fault offset ⊎ Q fault offset))
    (λ le. (
      inl p.0,
      (λ fault offset is. elim is [
        | inl a ↦ p.1 fault offset a
        | inr b ↦ let first = q.1 fault offset b in let order = leb-true one.offset other.offset le in
            omega (arith, first, order)
      ]),
    ))
    (λ gt. (
      inr q.0,
      (λ fault offset is. elim is [
        | inl a ↦ let first = p.1 fault offset a in let order = leb-false one.offset other.offset gt in
            omega (arith, first, order)
        | inr b ↦ q.1 fault offset b
      ]),
    ))

pub finds_same : (P Q : Fault → ℕ → Type 0) (found : Option FaultAt) → ((fault : Fault) (offset : ℕ) → P fault offset →
    Q fault offset) →
    ((fault : Fault) (offset : ℕ) → Q fault offset → P fault offset) → Finds found P → Finds found Q
finds_same P Q None to from is = λ fault offset q. is fault offset (from fault offset q)
finds_same P Q (Some found) to from is = (to _ _ is.0, (λ fault offset q. is.1 fault offset (from fault offset q)))

pub first_of_four : (board : Option ℕ) (first : Option Values) (values : Values) (a b c d found : Option FaultAt) →
    Finds a (FaultAtTag board first used.Board (values used.Board)) →
    Finds b (FaultAtTag board first used.Dealer (values used.Dealer)) →
    Finds c (FaultAtTag board first used.Vulnerable (values used.Vulnerable)) →
    Finds d (FaultAtTag board first used.Deal (values used.Deal)) →
    found ≡ earlier_of (earlier_of a b) (earlier_of c d) → Finds found (HasTagFault board first values)
first_of_four board first values a b c d found fa fb fc fd is =
    let At : Used → Fault → ℕ → Type 0 = λ used. FaultAtTag board first used (values used) in
    let all = earlier_finds _ _ _ _ (earlier_finds (At used.Board) (At used.Dealer) a b fa fb)
    (earlier_finds (At used.Vulnerable) (At used.Deal) c d fc fd) in
    subst (λ found. Finds found (HasTagFault board first values)) (sym is)
    (finds_same _ (HasTagFault board first values) _ joined split all)
  where
    Four : Fault → ℕ → Type 0
    Four fault offset =
        (FaultAtTag board first used.Board (values used.Board) fault offset ⊎ FaultAtTag board first used.Dealer
        (values used.Dealer) fault offset) ⊎
        (FaultAtTag board first used.Vulnerable (values used.Vulnerable) fault offset ⊎ FaultAtTag board first used.Deal
        (values used.Deal) fault offset)

    joined : (fault : Fault) (offset : ℕ) → Four fault offset → HasTagFault board first values fault offset
    joined fault offset (inl (inl is)) = (used.Board, is)
    joined fault offset (inl (inr is)) = (used.Dealer, is)
    joined fault offset (inr (inl is)) = (used.Vulnerable, is)
    joined fault offset (inr (inr is)) = (used.Deal, is)

    split : (fault : Fault) (offset : ℕ) → HasTagFault board first values fault offset → Four fault offset
    split fault offset (used.Board, is) = inl (inl is)
    split fault offset (used.Dealer, is) = inl (inr is)
    split fault offset (used.Vulnerable, is) = inr (inl is)
    split fault offset (used.Deal, is) = inr (inr is)

pub some_board : (board : Option ℕ) (none : Bool) → is_some board ≡ not none → none ≡ false → board ≢ None
some_board board none is isnt e = true≢false (sym (is ∙ ap not isnt) ∙ ap is_some e)

pub none_board : (board : Option ℕ) (none : Bool) → is_some board ≡ not none → none ≡ true → board ≡ None
none_board None none is e = refl
none_board (Some number) none is e = absurd (true≢false (is ∙ ap not e))

-- a game of a board whose deal or marks can't be read has a fault
abbrev pub HasSomeFault : ℕ → Used → Option Valued → Type 0
HasSomeFault number used tag = (fault : Fault) × (offset : ℕ) × FaultAtTag (Some number) None used tag fault offset

some_some : (number : ℕ) → Some number ≢ None
some_some number e = true≢false (ap is_some e)

fault_at : (number : ℕ) (used : Used) (tag : Valued) (fault : Fault) → BoardFault None used tag.value fault →
    HasSomeFault number used (Some tag)
fault_at number used tag fault is = elim (cases_Bool (is_inherited_form tag.value)) [
  | inl form ↦ (InheritedForm, tag.offset, (refl, ((λ e. refl), (λ e. absurd (true≢false (sym form ∙ e))))))
  | inr plain ↦ (fault, tag.offset, (refl, ((λ e. absurd (true≢false (sym e ∙ plain))), (λ e. (some_some number, is)))))
]

pub dealer_fault : (number : ℕ) (tag : Option Valued) → HasBadDealer tag → HasSomeFault number used.Dealer tag
dealer_fault number None bad = absurd bad
dealer_fault number (Some tag) bad = fault_at number used.Dealer tag BadMark (refl, refl, bad)

pub vulnerable_fault : (number : ℕ) (tag : Option Valued) → HasBadVulnerable tag → HasSomeFault number used.Vulnerable
    tag
vulnerable_fault number None bad = absurd bad
vulnerable_fault number (Some tag) bad = fault_at number used.Vulnerable tag BadMark (refl, refl, bad)

pub bad_deal_fault : (number : ℕ) (tag : Option TagAt) (offset : ℕ) (written : List ℕ) (fault : Fault) →
    as_read (as_written tag) ≡ Some (record { offset = offset; value = read_value written }) → DealFault None written
    fault →
    HasSomeFault number used.Deal (as_read (as_written tag))
bad_deal_fault number tag offset written fault is bad =
    subst (HasSomeFault number used.Deal) (sym is)
    (fault_at number used.Deal (record { offset = offset; value = read_value written }) fault
    (deal_fault_read written None fault bad))

pub no_deal_no_board : (boards number : ℕ) (values : Values) → values used.Deal ≡ None → game_board boards values ≡ Some
    number → ⊥
no_deal_no_board boards number values none e =
    some_some number (sym e ∙ ap (λ tag. if is_there tag then number_in boards (values used.Board) else None) none)

pub has_deal_read : (deal : Hands) (tag : Option TagAt) (offset : ℕ) (written : List ℕ) →
    as_read (as_written tag) ≡ Some (record { offset = offset; value = read_value written }) →
    IsDealValue deal written → HasDeal (as_read (as_written tag)) deal
has_deal_read deal tag offset written is deals =
    subst (λ tag. HasDeal tag deal) (sym is) ((same_deal deal written).0 deals)
