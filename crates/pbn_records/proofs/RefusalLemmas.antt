-- A text is refused for one reason at most, and one that is read for none but want of memory.
use Rattle.std.proofs.Common.{◌≡◌, ℕ, ◌<◌, true, ◌⊎◌, inl, inr, List, refl, sym, ap, subst, ◌∙◌, arith}
use Rattle.std.specs.Prelude.{Some, None}
use Rattle.std.specs.Option.{is_some}
use Rattle.std.proofs.lemmas.Bool.{true≢false}
use Rattle.pbn_pieces.specs.Pieces.{Piece}
use Rattle.pbn_pieces.proofs.CutLemmas.{cut_once}
use Rattle.pbn_records.specs.declared.board.Board.{Board}
use Rattle.pbn_records.specs.declared.fault.Fault.{Fault}
use Rattle.pbn_records.specs.declared.fault.Fault.TheVariants as kind
use Rattle.pbn_records.specs.declared.deals_error.DealsError.{DealsError}
use Rattle.pbn_records.specs.declared.deals_error.DealsError.TheVariants.{
  BadTag,
  BadDeal,
  HiddenHand,
  BadMark,
  DealConflict,
  InheritedForm,
  MissingBoard,
  OutOfMemory,
}
use Rattle.pbn_records.specs.Tags.{without_mark}
use Rattle.pbn_records.specs.Values.{Values}
use Rattle.pbn_records.specs.Boards.{first_game}
use Rattle.pbn_records.specs.Reads.{
  start_of,
  values_from,
  ArePieces,
  IsFault,
  IsFaultless,
  IsFirstFault,
  IsLeastMissing,
  Reads,
  IsRefused,
}
use Rattle.pbn_records.specs.Kept.{error_of}
use Rattle.pbn_records.proofs.OneFaultLemmas.{one_fault}

same_pieces : (text : List ℕ) (some others : List Piece) → ArePieces text some → ArePieces text others → some ≡ others
same_pieces text some others a b = cut_once true some others (without_mark text) a b

-- two first faults are one
one_first : (text : List ℕ) (boards : ℕ) (one other : Fault) (here there : ℕ) → IsFirstFault text boards one here →
    IsFirstFault text boards other there →
    error_of one here ≡ error_of other there
one_first text boards one other here there a b =
    let pieces = same_pieces text b.pieces a.pieces b.joined a.joined in
    let found = subst (λ p. IsFault boards (start_of text) p other there) pieces b.is in
    let early = a.least other there found in
    let late = b.least one here (subst (λ p. IsFault boards (start_of text) p one here) (sym pieces) a.is) in
    let same : here ≡ there = omega (arith, early, late) in
    (λ i. error_of (one_fault boards (start_of text) a.pieces one other there
    (subst (λ n. IsFault boards (start_of text) a.pieces one n) same a.is) found i) (same i))

-- a text with a fault has none elsewhere
no_fault : (text : List ℕ) (boards : ℕ) (fault : Fault) (offset : ℕ) (pieces : List Piece) → ArePieces text pieces →
    IsFaultless boards (start_of text) pieces →
    ¬ IsFirstFault text boards fault offset
no_fault text boards fault offset pieces joined faultless is =
    faultless fault offset (subst (λ p. IsFault boards (start_of text) p fault offset)
    (same_pieces text is.pieces pieces is.joined joined) is.is)

-- a board that has a game isn't missing
not_missing : (boards number : ℕ) (one other : List Piece) (start : ℕ) (values : Values) → one ≡ other →
    first_game boards number (values_from start one) ≡ None → first_game boards number (values_from start other) ≡ Some
    values → ⊥
not_missing boards number one other start values same none some =
    true≢false (ap is_some (sym some ∙ ap (λ p. first_game boards number (values_from start p)) (sym same) ∙ none))

one_missing : (text : List ℕ) (boards one other : ℕ) → IsLeastMissing text boards one → IsLeastMissing text boards
    other → one ≡ other
one_missing text boards one other a b =
    let pieces = same_pieces text a.pieces b.pieces a.joined b.joined in
    elim (compared one other) [
      | inl before ↦ let game = b.least one a.from before in
          absurd (not_missing boards one a.pieces b.pieces (start_of text) game.0 pieces a.missing game.1)
      | inr rest ↦ elim rest [
        | inl same ↦ same
        | inr after ↦ let game = a.least other b.from after in absurd (not_missing boards other b.pieces a.pieces
            (start_of text) game.0 (sym pieces) b.missing game.1)
      ]
    ]
  where
    compared : (one other : ℕ) → (one < other) ⊎ (one ≡ other) ⊎ (other < one)
    compared one other = grind arith

-- the reason of a refusal
data Reason (text : List ℕ) (boards : ℕ) (error : DealsError) : Type 0 where
  At : (fault : Fault) (offset : ℕ) (named : error ≡ error_of fault offset)
      (is : IsFirstFault text boards fault offset) → Reason text boards error
  Lacking : (number : ℕ) (named : error ≡ MissingBoard number) (is : IsLeastMissing text boards number) →
      Reason text boards error
  Full : (named : error ≡ OutOfMemory) (set : List Board) (is : Reads text boards set) → Reason text boards error

reason_of : (text : List ℕ) (boards : ℕ) (error : DealsError) → IsRefused error text boards → Reason text boards error
reason_of text boards (BadTag offset) is = At kind.BadTag offset refl is
reason_of text boards (BadDeal offset) is = At kind.BadDeal offset refl is
reason_of text boards (HiddenHand offset) is = At kind.HiddenHand offset refl is
reason_of text boards (BadMark offset) is = At kind.BadMark offset refl is
reason_of text boards (DealConflict offset) is = At kind.DealConflict offset refl is
reason_of text boards (InheritedForm offset) is = At kind.InheritedForm offset refl is
reason_of text boards (MissingBoard number) is = Lacking number refl is
reason_of text boards OutOfMemory is = Full refl is.0 is.1

lacks_none : (text : List ℕ) (boards number : ℕ) (set : List Board) → IsLeastMissing text boards number →
    Reads text boards set → ⊥
lacks_none text boards number set a b =
    let game = b.read number a.from a.to in
    not_missing boards number a.pieces b.pieces (start_of text) game.0 (same_pieces text a.pieces b.pieces a.joined
    b.joined) a.missing game.2

of_reasons : (text : List ℕ) (boards : ℕ) (one other : DealsError) → Reason text boards one → Reason text boards other →
    one ≡ other
of_reasons text boards one other (At fault here named is) (At another there named' is') =
    named ∙ one_first text boards fault another here there is is' ∙ sym named'
of_reasons text boards one other (At fault here named is) (Lacking number named' is') =
    absurd (no_fault text boards fault here is'.pieces is'.joined is'.faultless is)
of_reasons text boards one other (At fault here named is) (Full named' set is') =
    absurd (no_fault text boards fault here is'.pieces is'.joined is'.faultless is)
of_reasons text boards one other (Lacking number named is) (At another there named' is') =
    absurd (no_fault text boards another there is.pieces is.joined is.faultless is')
of_reasons text boards one other (Lacking number named is) (Lacking number' named' is') =
    named ∙ ap (λ n. MissingBoard n) (one_missing text boards number number' is is') ∙ sym named'
of_reasons text boards one other (Lacking number named is) (Full named' set is') =
    absurd (lacks_none text boards number set is is')
of_reasons text boards one other (Full named set is) (At another there named' is') =
    absurd (no_fault text boards another there is.pieces is.joined is.faultless is')
of_reasons text boards one other (Full named set is) (Lacking number named' is') =
    absurd (lacks_none text boards number set is' is)
of_reasons text boards one other (Full named set is) (Full named' set' is') = named ∙ sym named'

pub one_refusal : (text : List ℕ) (boards : ℕ) (one other : DealsError) → IsRefused one text boards →
    IsRefused other text boards → one ≡ other
one_refusal text boards one other a b = of_reasons text boards one other (reason_of text boards one a)
    (reason_of text boards other b)

pub no_refusal : (text : List ℕ) (boards : ℕ) (set : List Board) (error : DealsError) → Reads text boards set →
    IsRefused error text boards →
    error ≡ OutOfMemory
no_refusal text boards set error reads is = of_reasons text boards error OutOfMemory (reason_of text boards error is)
    (Full refl set reads)
