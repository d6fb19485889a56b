-- What is told of what was found on a connection.
use Rattle.std.proofs.Common.{◌≡◌, ◌≢◌, inl, inr, ℕ, List, refl, sym, ap, subst, ◌∙◌}
use Rattle.std.specs.Prelude.{Option, Some, None, Result, Ok, Err}
use Rattle.session_commands.specs.declared.entry.Entry.{Entry}
use Rattle.session_keeper.proofs.KeepingLemmas.{goes_on_itself}
use Rattle.session_book.specs.Journal.{IsAccepted}
use Rattle.json_fields.specs.declared.request_fault.RequestFault.{RequestFault}
use Rattle.wire.specs.ReceiptText.{connection_fault_text}
use Rattle.wire.specs.declared.connection_fault.ConnectionFault.{ConnectionFault}
use Rattle.wire.specs.declared.connection_fault.ConnectionFault.TheVariants.{
  NotSignedIn,
  NotKnown,
  NoEntry,
  NotKept,
  Unsure,
  OutOfMemory,
}
use Rattle.wire.specs.declared.request.RequestBody.{RequestBody}
use Rattle.wire.specs.declared.request.RequestBody.TheVariants.{OfUser, Hello}
use Rattle.wire.specs.declared.request.UserRequest.{UserRequest}
use Rattle.request_answers.specs.Answering.{EntersNoneOrIt}
use Rattle.request_answers.specs.declared.answer_fault.AnswerFault.{AnswerFault}
use Rattle.request_answers.specs.declared.answer_fault.AnswerFault.TheVariants as unanswered
use Rattle.connections.specs.Linked.{Linked, EntersNone, StaysOn}
use Rattle.connections.specs.Serving.{AnswersOnce, ForUser, IsServed, IsToldOf, IsUnserved, Leaves, LeavesRequest}

-- a connection that stays as it is
pub stays_itself : (at : Linked) → StaysOn at at
stays_itself at = record { later = goes_on_itself at.opening at.journal; user = refl }

pub stays_same : (before after : Linked) → after ≡ before → StaysOn before after
stays_same before after same = subst (λ (l : Linked). StaysOn before l) (sym same) (stays_itself before)

-- what is told of what was found for a request
pub told_request : (Others : List Entry → List Entry → Type 0) (no_entry not_kept : Type 0) {S : Type 0}
    (bytes : S → List ℕ) (before after : Linked) (request : UserRequest) (served : Result S ConnectionFault)
    (user : Option (List ℕ)) (text : List ℕ) →
    IsServed Others no_entry not_kept bytes before after request served user → IsToldOf bytes served text →
    ForUser Others no_entry not_kept before after request text user
told_request Others no_entry not_kept bytes before after request (Ok written) None text found told =
    absurd (cc (found.0))
told_request Others no_entry not_kept bytes before after request (Err fault) None text found told =
    let nobody : fault ≡ NotSignedIn = cc (found.0) in (told.0 ∙ ap connection_fault_text nobody, found.1)
told_request Others no_entry not_kept bytes before after request (Ok written) (Some user) text found told = (
  inl (subst (λ t. AnswersOnce Others before after user request t) (sym told) found.0),
  found.2,
  found.3,
)
told_request Others no_entry not_kept bytes before after request (Err fault) (Some user) text found told =
    (inr (record { fault = fault; why = found.1; has_text = told.1; says = told.0 }), found.2, found.3)

-- whatever was found, the connection stays on
pub stays_served : (Others : List Entry → List Entry → Type 0) (no_entry not_kept : Type 0) {S : Type 0}
    (bytes : S → List ℕ) (before after : Linked) (request : UserRequest) (served : Result S ConnectionFault)
    (user : Option (List ℕ)) →
    IsServed Others no_entry not_kept bytes before after request served user → StaysOn before after
stays_served Others no_entry not_kept bytes before after request served None found = stays_same before after found.1
stays_served Others no_entry not_kept bytes before after request served (Some user) found = found.2

-- for another reason than want of memory a request without an answer enters nothing
pub none_unless : (Others : List Entry → List Entry → Type 0) (before after : Linked) (user : List ℕ)
    (request : UserRequest) (why : AnswerFault) → why ≢ unanswered.OutOfMemory →
    EntersNoneOrIt Others after.opening before.own_entries before.journal user request why after.own_entries
    after.journal →
    EntersNone before after
none_unless Others before after user request why other (inl (none, came)) = none
none_unless Others before after user request why other (inr (is, text, once)) = absurd (other is)

-- nothing came of a request that has no answer, or all but its text
leaves_unserved : (Others : List Entry → List Entry → Type 0) (no_entry not_kept : Type 0) (before after : Linked)
    (user : List ℕ) (request : UserRequest) (fault : ConnectionFault) →
    IsUnserved Others no_entry not_kept before after user request fault → IsAccepted after.opening after.journal →
    LeavesRequest Others before after request (Some user)
leaves_unserved Others no_entry not_kept before after user request NotSignedIn why accepted = absurd why
leaves_unserved Others no_entry not_kept before after user request NotKnown why accepted = absurd why
leaves_unserved Others no_entry not_kept before after user request NoEntry (why, entered) accepted =
    inl (why.2, none_unless Others before after user request unanswered.NoEntry (λ is. cc) entered)
leaves_unserved Others no_entry not_kept before after user request NotKept (why, entered) accepted =
    inr (inl (why.2, none_unless Others before after user request unanswered.NotKept (λ is. cc) entered), accepted)
leaves_unserved Others no_entry not_kept before after user request Unsure (why, entered) accepted =
    inr (inl (why.2, none_unless Others before after user request unanswered.Unsure (λ is. cc) entered), accepted)
leaves_unserved Others no_entry not_kept before after user request OutOfMemory (why, inl (none, inl same)) accepted =
    inl (same, none)
leaves_unserved Others no_entry not_kept before after user request OutOfMemory (why, inl (none, inr others)) accepted =
    inr (inl (others, none), accepted)
leaves_unserved Others no_entry not_kept before after user request OutOfMemory (why, inr (is, text, once)) accepted =
    inr (inr (text, once), accepted)

-- so it is of any request
pub leaves_served : (Others : List Entry → List Entry → Type 0) (no_entry not_kept : Type 0) {S : Type 0}
    (bytes : S → List ℕ) (before after : Linked) (request : UserRequest) (served : Result S ConnectionFault)
    (user : Option (List ℕ)) →
    IsServed Others no_entry not_kept bytes before after request served user →
    LeavesRequest Others before after request user
leaves_served Others no_entry not_kept bytes before after request served None found =
    (ap (λ (l : Linked). l.journal) found.1, ap (λ (l : Linked). l.own_entries) found.1)
leaves_served Others no_entry not_kept bytes before after request (Ok written) (Some user) found =
    inr (inr (bytes written, found.0), found.3)
leaves_served Others no_entry not_kept bytes before after request (Err fault) (Some user) found =
    leaves_unserved Others no_entry not_kept before after user request fault found.1 found.3

-- nothing came of what was read
leaves_request : (Others : List Entry → List Entry → Type 0) (at : Linked) (request : UserRequest)
    (user : Option (List ℕ)) →
    LeavesRequest Others at at request user
leaves_request Others at request None = (refl, refl)
leaves_request Others at request (Some user) = inl (refl, refl)

pub leaves_itself : (Others : List Entry → List Entry → Type 0) (at : Linked) (read : Result RequestBody RequestFault) →
    Leaves Others at at read
leaves_itself Others at (Ok (OfUser request)) = leaves_request Others at request at.user
leaves_itself Others at (Ok (Hello name token)) = inl (refl, refl)
leaves_itself Others at (Err fault) = (refl, refl)
