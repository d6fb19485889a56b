-- What is read from a session object's text, and why it is refused.
use Rattle.std.proofs.Common.{
  ◌≡◌,
  ◌<◌,
  ◌≤◌,
  ◌==◌,
  ℕ,
  zero,
  suc,
  true,
  is_some,
  List,
  [],
  ◌∷◌,
  length,
  get_or,
  drop,
  append-nil,
  Option,
  Some,
  None,
  Result,
  Ok,
  Err,
  IfOk,
  IfErr,
  IsUtf8,
  refl,
  sym,
  ap,
  subst,
  ◌∙◌,
  arith,
}
use Rattle.std.proofs.lemmas.Str.{utf8_valid_len-IsUtf8}
use Rattle.std.proofs.lemmas.Option.{same_Some}
use Rattle.serde_json.specs.Data.{Data}
use Rattle.serde_json.specs.Read.{read}
use Rattle.serde_json.specs.Find.{as_object}
use Rattle.serde_json.specs.View.{view, items_view}
use Rattle.serde_json.specs.declared.value.Value.{Value}
use Rattle.json_fields.specs.Form.{first_then, each}
use Rattle.json_fields.proofs.ListLemmas.{with_front}
use Rattle.small_sets.specs.First.{IsFirst}
use Rattle.movement.specs.Movement.{Section, boards_of}
use Rattle.mitchell.specs.declared.movement_error.MovementError.{MovementError}
use Rattle.mitchell.specs.declared.movement_error.MovementError.TheVariants.{BadTables, BadRounds, BadSets, BadPair}
use Rattle.movement.specs.declared.list_error.ListError.{ListError}
use Rattle.movement.specs.declared.list_error.ListError.TheVariants as list
use Rattle.session_object.specs.declared.asked_movement.AskedMovement.{AskedMovement}
use Rattle.session_object.specs.declared.asked_movement.AskedMovement.TheVariants.{Nothing, Word, Rows}
use Rattle.pbn_records.specs.Reads as pbn
use Rattle.pbn_records.specs.declared.board.Board.{Board}
use Rattle.pbn_records.specs.declared.deals_error.DealsError.{DealsError}
use Rattle.pbn_records.specs.declared.deals_error.DealsError.TheVariants as deals
use Rattle.pbn_records.proofs.LawLemmas.{one_reading}
use Rattle.session_object.specs.declared.object.SessionObject.{SessionObject}
use Rattle.session_object.specs.declared.parts.Parts.{Parts}
use Rattle.session_object.specs.declared.session_fault.SessionFault.{SessionFault}
use Rattle.session_object.specs.declared.session_fault.SessionFault.TheVariants.{
  TooLong,
  Malformed,
  BadField,
  Movement,
  Row,
  Deals,
  OutOfMemory,
}
use Rattle.session_object.specs.Session.{Session, session_of, IsSession}
use Rattle.session_object.specs.Reading.{notices_of, section_of, fault_of_list, fault_place, RefusesAsked, RefusesMovement, HasNoMovementFault, ReadsObject, HasNoMovement, HasNoBoards, IsRefusedObject, most_bytes, IsReadAsJson, ReadsSession, IsObjectText, IsSessionRefused, session_of_parts, fault_of_deals, FailsPart}
use Rattle.session_object.proofs.SessionLemmas.{session_read, session_reads, one_session}

-- ---- the elements of a list

-- where an element isn't read, those from it on aren't
none_from : {A : Type 0} (read : Data → Option A) (values : List Value) (i : ℕ) (v : Value) → i < length values →
    v ≡ get_or values i v
    → read (view v) ≡ None → each read (items_view (drop i values)) ≡ None
none_from read [] i v below is none = absurd (omega arith)
none_from read (w ∷ values) zero v below is none =
    ap (λ o. first_then o (each read (items_view values))) (sym (ap (λ (x : Value). read (view x)) is) ∙ none)
none_from read (w ∷ values) (suc i) v below is none = none_from read values i v (omega arith) is none

-- nor is the list
pub each_fails : {A : Type 0} (read : Data → Option A) (front : List A) (values : List Value) (i : ℕ) (v : Value)
    (fault : SessionFault)
    → with_front front (each read (items_view (drop i values))) ≡ each read (items_view values)
    → i < length values → v ≡ get_or values i v → FailsPart fault (read (view v)) → FailsPart fault
    (each read (items_view values))
each_fails read front values i v TooLong kept below is fails = fails
each_fails read front values i v Malformed kept below is fails = fails
each_fails read front values i v BadField kept below is fails = sym kept ∙ ap (with_front front)
    (none_from read values i v below is fails)
each_fails read front values i v (Movement error) kept below is fails = fails
each_fails read front values i v (Row fault number) kept below is fails = fails
each_fails read front values i v (Deals error) kept below is fails = fails
each_fails read front values i v OutOfMemory kept below is fails = tt

-- past the last element there is nothing to read
past_end : {A : Type 0} (read : Data → Option A) (values : List Value) (i : ℕ) → length values ≤ i
    → each read (items_view (drop i values)) ≡ Some []
past_end read [] zero end = refl
past_end read [] (suc i) end = refl
past_end read (w ∷ values) zero end = absurd (omega arith)
past_end read (w ∷ values) (suc i) end = past_end read values i (omega arith)

-- what was read is then the whole list
pub each_end : {A : Type 0} (read : Data → Option A) (front : List A) (values : List Value) (i : ℕ)
    → with_front front (each read (items_view (drop i values))) ≡ each read (items_view values) → length values ≤ i
    → each read (items_view values) ≡ Some front
each_end read front values i kept end =
    sym kept ∙ (ap (with_front front) (past_end read values i end) ∙ ap Some (append-nil front))

-- ---- objects

no_place_of_numbers : (error : MovementError) → fault_place (Movement error) ≡ 0 → ⊥
no_place_of_numbers BadTables none = absurd (cc)
no_place_of_numbers BadRounds none = absurd (cc)
no_place_of_numbers BadSets none = absurd (cc)
no_place_of_numbers BadPair none = absurd (cc)

no_place_of_list : (error : ListError) → fault_place (fault_of_list error) ≡ 0 → ⊥
no_place_of_list list.BadTables none = absurd (cc)
no_place_of_list list.BadRounds none = absurd (cc)
no_place_of_list list.BadSets none = absurd (cc)
no_place_of_list (list.BadRow misplaced) none = absurd (cc)
no_place_of_list list.BadPair none = absurd (cc)

module _ (given : Option (List ℕ)) (d : Data) where
  -- a member is wrong, or memory was refused
  pub refused_parts : (fault : SessionFault) → FailsPart fault (session_of given d) → IsRefusedObject fault given d
  refused_parts TooLong fails = absurd fails
  refused_parts Malformed fails = absurd fails
  refused_parts BadField fails = λ session is. let found = session_reads given d session is in absurd (cc)
  refused_parts (Movement error) fails = absurd fails
  refused_parts (Row fault number) fails = absurd fails
  refused_parts (Deals error) fails = absurd fails
  refused_parts OutOfMemory fails = tt

  module _ (parts : Parts) (said : session_of given d ≡ Some (session_of_parts parts)) where
    no_movement : (fault : SessionFault) → IsFirst fault_place (RefusesMovement (session_of_parts parts)) fault
        → HasNoMovement given d fault
    no_movement fault refused = record {
      session = session_of_parts parts;
      says = session_read given d (session_of_parts parts) said;
      refused = refused;
    }

    -- no other fault is one of a movement
    other_fault : (asked : AskedMovement) (session : Session) (fault : SessionFault) → RefusesAsked asked session fault
        → fault_place fault ≡ 0 → ⊥
    other_fault Nothing session fault refuses none = no_place_of_numbers refuses.0 (ap fault_place (sym refuses.1) ∙ none)
    other_fault (Word word) session fault refuses none = no_place_of_list refuses.0 (ap fault_place (sym refuses.1) ∙ none)
    other_fault (Rows rows) session fault refuses none = no_place_of_list refuses.0 (ap fault_place (sym refuses.1) ∙ none)

    -- the movement isn't made
    pub refused_movement : (fault : SessionFault) → IsFirst fault_place (RefusesMovement (session_of_parts parts)) fault
        → IsRefusedObject fault given d
    refused_movement (Movement error) refused = no_movement (Movement error) refused
    refused_movement (Row fault number) refused = no_movement (Row fault number) refused
    refused_movement TooLong refused = absurd (other_fault parts.movement (session_of_parts parts) TooLong refused.holds refl)
    refused_movement Malformed refused = absurd (other_fault parts.movement (session_of_parts parts) Malformed refused.holds
        refl)
    refused_movement BadField refused = absurd (other_fault parts.movement (session_of_parts parts) BadField refused.holds
        refl)
    refused_movement (Deals error) refused = absurd (other_fault parts.movement (session_of_parts parts) (Deals error)
        refused.holds refl)
    refused_movement OutOfMemory refused = tt

  module _ (session : Session) (says : IsSession given d session) (allowed : HasNoMovementFault session)
    where
      refused_by : (error : DealsError) → pbn.IsRefused error session.pbn (boards_of (section_of session)) →
          HasNoBoards given d error
      refused_by error refused = record { session = session; says = says; allowed = allowed; refused = refused }

      by_error : (error : DealsError) → pbn.IsRefused error session.pbn (boards_of (section_of session))
          → IsRefusedObject (fault_of_deals error) given d
      by_error deals.OutOfMemory refused = tt
      by_error (deals.BadTag offset) refused = (λ same. absurd (cc), refused_by (deals.BadTag offset) refused)
      by_error (deals.BadDeal offset) refused = (λ same. absurd (cc), refused_by (deals.BadDeal offset) refused)
      by_error (deals.HiddenHand offset) refused = (λ same. absurd (cc), refused_by (deals.HiddenHand offset) refused)
      by_error (deals.BadMark offset) refused = (λ same. absurd (cc), refused_by (deals.BadMark offset) refused)
      by_error (deals.DealConflict offset) refused = (λ same. absurd (cc), refused_by (deals.DealConflict offset) refused)
      by_error (deals.InheritedForm offset) refused = (
        λ same. absurd (cc),
        refused_by (deals.InheritedForm offset)
            refused,
      )
      by_error (deals.MissingBoard board) refused = (λ same. absurd (cc), refused_by (deals.MissingBoard board) refused)

  pub refused_boards : (parts : Parts) (section : Section) (boards : ℕ) (error : DealsError) (fault : SessionFault)
      → fault ≡ fault_of_deals error → session_of given d ≡ Some (session_of_parts parts)
      → section ≡ section_of (session_of_parts parts) → HasNoMovementFault (session_of_parts parts)
      → boards ≡ boards_of section
      → pbn.IsRefused error parts.pbn.now boards → IsRefusedObject fault given d
  refused_boards parts section boards error fault is said same allowed many refused =
      subst (λ f. IsRefusedObject f given d) (sym is)
      (by_error (session_of_parts parts) (session_read given d (session_of_parts parts) said)
      allowed error
      (subst (pbn.IsRefused error parts.pbn.now) (many ∙ ap boards_of same) refused))

  pub reads_object : (parts : Parts) (section : Section) (many : ℕ) (boards : List Board) → session_of given d ≡ Some
      (session_of_parts parts)
      → section ≡ section_of (session_of_parts parts) → HasNoMovementFault (session_of_parts parts)
      → many ≡ boards_of section
      → pbn.Reads parts.pbn.now many boards
      → ReadsObject given d (record {
        config = record {
          edition = parts.edition;
          movement = section;
          boards = boards;
          users = parts.users;
          notices = notices_of (session_of_parts parts);
        };
        budget = parts.budget;
      })
  reads_object parts section many boards said same allowed is_many read = record {
    session = session_of_parts parts;
    says = session_read given d (session_of_parts parts) said;
    edition = refl;
    movement = same;
    allowed = allowed;
    boards = subst (λ n. pbn.Reads parts.pbn.now n boards) (is_many ∙ ap boards_of same) read;
    users = refl;
    notices = refl;
    budget = refl;
  }

-- ---- texts

pub refused_text : (fault : SessionFault) (given : Option (List ℕ)) (text : List ℕ) (d : Data) → IsObjectText text d
    → IsRefusedObject fault given d → IsSessionRefused fault given text
refused_text TooLong given text d is refused = absurd refused
refused_text Malformed given text d is refused = absurd refused
refused_text BadField given text d is refused = record { said = d; is = is; refused = refused }
refused_text (Movement error) given text d is refused = record { said = d; is = is; refused = refused }
refused_text (Row fault number) given text d is refused = record { said = d; is = is; refused = refused }
refused_text (Deals error) given text d is refused = record { said = d; is = is; refused = refused }
refused_text OutOfMemory given text d is refused = tt

same_number : (m n : ℕ) → m ≡ n → (m == n) ≡ true
same_number m n h = grind arith

pub object_text : (text : List ℕ) (d : Data) → length text ≤ most_bytes → IsUtf8 text → read text ≡ Some d →
    is_some (as_object d) ≡ true
    → IsObjectText text d
object_text text d short utf8 reads members = record {
  short = short;
  object = record { utf8 = same_number _ _ (utf8_valid_len-IsUtf8 text utf8); reads = reads; members = members };
}

pub refused_in : {A : Type 0} (result : Result A SessionFault) (given : Option (List ℕ)) (text : List ℕ) (d : Data) →
    IsObjectText text d
    → IfErr result (λ fault. IsRefusedObject fault given d) → IfErr result (λ fault. IsSessionRefused fault given text)
refused_in (Ok x) given text d is refused = tt
refused_in (Err fault) given text d is refused = refused_text fault given text d is refused

pub read_in : (result : Result SessionObject SessionFault) (given : Option (List ℕ)) (text : List ℕ) (d : Data) →
    IsObjectText text d
    → IfOk result (ReadsObject given d) → IfOk result (ReadsSession given text)
read_in (Ok x) given text d is reads = record { said = d; is = is; reads = reads }
read_in (Err fault) given text d is reads = tt

-- ---- bytes for which memory is asked

pub memory_for_json : {A : Type 0} (answer : Result A SessionFault) (bytes : List ℕ) → length bytes ≤ most_bytes
    → IsUtf8 bytes → IfErr answer (λ fault. fault ≡ OutOfMemory → IsReadAsJson bytes)
memory_for_json (Ok x) bytes short utf8 = tt
memory_for_json (Err fault) bytes short utf8 = λ same. record { short = short; utf8 = utf8 }

-- ---- one reading

module _ (given : Option (List ℕ)) where
  one_object : (d : Data) (one other : SessionObject) → ReadsObject given d one → ReadsObject given d other →
      one ≡ other
  one_object d one other first second =
      let session : first.session ≡ second.session = one_session given d first.session second.session first.says
      second.says in
      let again : pbn.Reads first.session.pbn (boards_of (section_of first.session)) other.config.boards =
      subst (λ (s : Session). pbn.Reads s.pbn (boards_of (section_of s)) other.config.boards) (sym session)
      second.boards in
      let boards : one.config.boards ≡ other.config.boards =
      one_reading first.session.pbn (boards_of (section_of first.session)) one.config.boards other.config.boards
      first.boards again in
      let edition : one.config.edition ≡ other.config.edition = first.edition ∙ ap (λ (s : Session). s.edition) session
      ∙ sym second.edition in
      let movement : one.config.movement ≡ other.config.movement = first.movement ∙ ap section_of session
      ∙ sym second.movement in
      let users : one.config.users ≡ other.config.users = first.users ∙ ap (λ (s : Session). s.users) session
      ∙ sym second.users in
      let notices : one.config.notices ≡ other.config.notices = first.notices ∙ ap notices_of session
      ∙ sym second.notices in
      let budget : one.budget ≡ other.budget = first.budget ∙ ap (λ (s : Session). s.budget) session ∙ sym second.budget
      in
      λ i. record {
        config = record {
          edition = edition i;
          movement = movement i;
          boards = boards i;
          users = users i;
          notices = notices i;
        };
        budget = budget i;
      }

  pub one_text : (text : List ℕ) (one other : SessionObject) → ReadsSession given text one → ReadsSession given text
      other → one ≡ other
  one_text text one other first second =
      let same : first.said ≡ second.said = same_Some first.said second.said
      (sym first.is.object.reads ∙ second.is.object.reads) in
      one_object first.said one other first.reads (subst (λ d. ReadsObject given d other) (sym same) second.reads)
