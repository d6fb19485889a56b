-- What is read isn't refused.
use Rattle.std.proofs.Common.{◌≡◌, ◌≢◌, ℕ, true, List, Option, None, refl, sym, ap, subst, ◌∙◌, arith}
use Rattle.std.proofs.lemmas.Option.{same_Some}
use Rattle.serde_json.specs.Data.{Data}
use Rattle.pbn_pieces.proofs.CutLemmas.{cut_once}
use Rattle.pbn_records.specs.Tags.{without_mark}
use Rattle.pbn_records.specs.Boards.{first_game}
use Rattle.pbn_records.specs.Reads.{start_of, values_from, IsFault, IsFirstFault, IsLeastMissing}
use Rattle.pbn_records.specs.Reads as pbn
use Rattle.pbn_records.specs.declared.board.Board.{Board}
use Rattle.pbn_records.specs.declared.deals_error.DealsError.{DealsError}
use Rattle.pbn_records.specs.declared.deals_error.DealsError.TheVariants as deals
use Rattle.movement.specs.Movement.{boards_of}
use Rattle.session_object.specs.declared.object.SessionObject.{SessionObject}
use Rattle.session_object.specs.declared.session_fault.SessionFault.{SessionFault}
use Rattle.session_object.specs.declared.session_fault.SessionFault.TheVariants.{
  TooLong,
  Malformed,
  BadField,
  Movement,
  Row,
  Deals,
  OutOfMemory,
}
use Rattle.session_object.specs.Session.{Session}
use Rattle.session_object.specs.Reading.{
  section_of,
  HasNoMovementFault,
  ReadsObject,
  IsRefusedObject,
  ReadsSession,
  IsSessionRefused,
  IsRefusedText,
}
use Rattle.session_object.proofs.SessionLemmas.{one_session}

-- a text whose boards are read has no fault
no_first_fault : (text : List ℕ) (boards : ℕ) (set : List Board) (fault : _) (offset : ℕ) → pbn.Reads text boards set
    → IsFirstFault text boards fault offset → ⊥
no_first_fault text boards set fault offset read first =
    let pieces = cut_once true first.pieces read.pieces (without_mark text) first.joined read.joined in
    read.faultless fault offset (subst (λ p. IsFault boards (start_of text) p fault offset) pieces first.is)

-- and no board is missing
none_missing : (text : List ℕ) (boards : ℕ) (set : List Board) (board : ℕ) → pbn.Reads text boards set
    → IsLeastMissing text boards board → ⊥
none_missing text boards set board read least =
    let pieces = cut_once true least.pieces read.pieces (without_mark text) least.joined read.joined in
    let found = read.read board least.from least.to in
    let none : first_game boards board (values_from (start_of text) read.pieces) ≡ None =
    sym (ap (λ p. first_game boards board (values_from (start_of text) p)) pieces) ∙ least.missing in
    let some = found.2 in
    absurd (cc)

read_or_refused : (text : List ℕ) (boards : ℕ) (set : List Board) (error : DealsError) → error ≢ deals.OutOfMemory
    → pbn.Reads text boards set → pbn.IsRefused error text boards → ⊥
read_or_refused text boards set deals.OutOfMemory other read refused = other refl
read_or_refused text boards set (deals.BadTag offset) other read refused = no_first_fault text boards set _ offset read
    refused
read_or_refused text boards set (deals.BadDeal offset) other read refused = no_first_fault text boards set _ offset read
    refused
read_or_refused text boards set (deals.HiddenHand offset) other read refused = no_first_fault text boards set _ offset
    read refused
read_or_refused text boards set (deals.BadMark offset) other read refused = no_first_fault text boards set _ offset read
    refused
read_or_refused text boards set (deals.DealConflict offset) other read refused = no_first_fault text boards set _ offset
    read refused
read_or_refused text boards set (deals.InheritedForm offset) other read refused = no_first_fault text boards set _
    offset read refused
read_or_refused text boards set (deals.MissingBoard board) other read refused = none_missing text boards set board read
    refused

object_or_refused : (fault : SessionFault) (given : Option (List ℕ)) (d : Data) (object : SessionObject) →
    fault ≢ OutOfMemory
    → ReadsObject given d object → IsRefusedObject fault given d → ⊥
object_or_refused TooLong given d object other read refused = refused
object_or_refused Malformed given d object other read refused = refused
object_or_refused BadField given d object other read refused = refused read.session read.says
object_or_refused (Movement error) given d object other read refused =
    let same = one_session given d refused.session read.session refused.says read.says in
    subst HasNoMovementFault (sym same) read.allowed (Movement error) refused.refused.holds
object_or_refused (Row fault number) given d object other read refused =
    let same = one_session given d refused.session read.session refused.says read.says in
    subst HasNoMovementFault (sym same) read.allowed (Row fault number) refused.refused.holds
object_or_refused (Deals error) given d object other read (kind, refused) =
    let same = one_session given d refused.session read.session refused.says read.says in
    read_or_refused read.session.pbn (boards_of (section_of read.session)) object.config.boards error kind read.boards
    (subst (λ (s : Session). pbn.IsRefused error s.pbn (boards_of (section_of s))) same refused.refused)
object_or_refused OutOfMemory given d object other read refused = other refl

text_or_refused : (fault : SessionFault) (given : Option (List ℕ)) (text : List ℕ) (object : SessionObject) →
    fault ≢ OutOfMemory
    → ReadsSession given text object → IsRefusedText fault given text → ⊥
text_or_refused fault given text object other read refused =
    let same : refused.said ≡ read.said = same_Some refused.said read.said
    (sym refused.is.object.reads ∙ read.is.object.reads) in
    object_or_refused fault given read.said object other read.reads
    (subst (IsRefusedObject fault given) same refused.refused)

pub not_refused : (given : Option (List ℕ)) (text : List ℕ) (object : SessionObject) (fault : SessionFault) →
    ReadsSession given text object
    → fault ≢ OutOfMemory → ¬ IsSessionRefused fault given text
not_refused given text object TooLong read other refused = omega (arith, read.is.short, refused)
not_refused given text object Malformed read other refused = refused.none read.said read.is.object
not_refused given text object BadField read other refused = text_or_refused BadField given text object other read
    refused
not_refused given text object (Movement error) read other refused = text_or_refused (Movement error) given text object
    other read refused
not_refused given text object (Row fault number) read other refused = text_or_refused (Row fault number) given text
    object other read refused
not_refused given text object (Deals error) read other refused = text_or_refused (Deals error) given text object other
    read refused
not_refused given text object OutOfMemory read other refused = other refl
