-- What a connection answers: for the user who is signed in, over the journal for which its keeper stands then. Others
-- may lead the journal on meanwhile, where the keeper doesn't keep its session alone.
use Rattle.std.specs.Prelude.{◌≡◌, ◌≢◌, ◌⊎◌, ℕ, Option, Some, None, Result, Ok, Err, IfOk, IfErr, List, codes}
use Rattle.serde_json.specs.Data.{Data, object, member, no_members, string}
use Rattle.serde_json.specs.Written.{compact_text}
use Rattle.sha2.specs.Sha256.{sha256}
use Rattle.session_commands.specs.declared.entry.Entry.{Entry}
use Rattle.session_book.specs.Journal.{IsAccepted}
use Rattle.published_view.specs.View.{digest_after}
use Rattle.json_fields.specs.declared.request_fault.RequestFault.{RequestFault}
use Rattle.wire.specs.ReceiptText.{fault_text, connection_fault_text}
use Rattle.wire.specs.Request.{connection_meaning}
use Rattle.wire.specs.declared.connection_fault.ConnectionFault.{ConnectionFault}
use Rattle.wire.specs.declared.connection_fault.ConnectionFault.TheVariants.{
  NotSignedIn,
  NotKnown,
  NoEntry,
  NotKept,
  Unsure,
  OutOfMemory,
}
use Rattle.wire.specs.declared.request.RequestBody.{RequestBody}
use Rattle.wire.specs.declared.request.RequestBody.TheVariants.{OfUser, Hello}
use Rattle.wire.specs.declared.request.UserRequest.{UserRequest}
use Rattle.request_answers.specs.Answering.{EntersItOnce, EntersNoneOrIt, IsUnanswered}
use Rattle.request_answers.specs.declared.answer_fault.AnswerFault.{AnswerFault}
use Rattle.request_answers.specs.declared.answer_fault.AnswerFault.TheVariants as unanswered
use Rattle.connections.specs.Linked.{Linked, EntersNone, HasGoneOn, StaysOn}

-- ---- signing in

-- the account is there, and the digest of the token's bytes is its own
abbrev pub IsOwnToken : Linked → List ℕ → List ℕ → Type 0
IsOwnToken at name token = digest_after at.opening at.journal name ≡ Some (record { bytes = sha256 token })

abbrev pub hello_data : List ℕ → Data
hello_data name = object (member (codes "hello") (string name) no_members)

-- what the user is told who has signed in
unfoldable pub hello_text : List ℕ → List ℕ
hello_text name = compact_text (hello_data name)

-- ---- a request of a user

-- a request of a user was answered on a connection, once, and the keeper has entered just what came of it
abbrev pub AnswersOnce : (List Entry → List Entry → Type 0) → Linked → Linked → List ℕ → UserRequest → List ℕ → Type 0
AnswersOnce Others before after user request text =
    EntersItOnce Others after.opening before.own_entries before.journal user request text after.own_entries
    after.journal

-- a request of a user has no answer for this reason, over the journals of a connection before and after it; the keeper
-- has entered nothing, or, where memory was refused for the text alone, just what came of it
abbrev pub GoesUnanswered : (List Entry → List Entry → Type 0) → Type 0 → Type 0 → Linked → Linked → List ℕ → UserRequest
    → AnswerFault → Type 0
GoesUnanswered Others no_entry not_kept before after user request why =
    IsUnanswered Others no_entry not_kept after.opening before.journal user request why after.journal
    × EntersNoneOrIt Others after.opening before.own_entries before.journal user request why after.own_entries
    after.journal

-- why a request of a user is not answered on a connection; somebody is signed in
abbrev pub IsUnserved : (List Entry → List Entry → Type 0) → Type 0 → Type 0 → Linked → Linked → List ℕ → UserRequest
    → ConnectionFault → Type 0
IsUnserved Others no_entry not_kept before after user request NotSignedIn = ⊥
IsUnserved Others no_entry not_kept before after user request NotKnown = ⊥
IsUnserved Others no_entry not_kept before after user request NoEntry =
    GoesUnanswered Others no_entry not_kept before after user request unanswered.NoEntry
IsUnserved Others no_entry not_kept before after user request NotKept =
    GoesUnanswered Others no_entry not_kept before after user request unanswered.NotKept
IsUnserved Others no_entry not_kept before after user request Unsure =
    GoesUnanswered Others no_entry not_kept before after user request unanswered.Unsure
IsUnserved Others no_entry not_kept before after user request OutOfMemory =
    GoesUnanswered Others no_entry not_kept before after user request unanswered.OutOfMemory

-- where somebody is signed in, the answer to a request of that user, or why there is none, over an accepted journal
-- that goes on from the one before; where nobody is, that fault, and all is as before
abbrev pub IsServed : (List Entry → List Entry → Type 0) → Type 0 → Type 0 → {S : Type 0} → (S → List ℕ) → Linked
    → Linked → UserRequest → Result S ConnectionFault → Option (List ℕ) → Type 0
IsServed Others no_entry not_kept bytes before after request served None =
    (served ≡ Err NotSignedIn) × (after ≡ before)
IsServed Others no_entry not_kept bytes before after request served (Some user) =
    IfOk served (λ text. AnswersOnce Others before after user request (bytes text))
    × IfErr served (λ fault. IsUnserved Others no_entry not_kept before after user request fault)
    × StaysOn before after × IsAccepted after.opening after.journal

-- ---- messages

-- the text is that of a fault, for which a request of a user has no answer; want of memory has no text
pub record TellsFault (Others : List Entry → List Entry → Type 0) (no_entry not_kept : Type 0) (before after : Linked)
    (user : List ℕ) (request : UserRequest) (text : List ℕ) : Type 0 where
  pub fault : ConnectionFault
  pub why : IsUnserved Others no_entry not_kept before after user request fault
  pub has_text : fault ≢ OutOfMemory
  pub says : text ≡ connection_fault_text fault

-- the text for a request of a user: where somebody is signed in its answer, or that no version could be entered, or that
-- a batch isn't kept, or may not be; where nobody is, that fault, and all is as before
abbrev pub ForUser : (List Entry → List Entry → Type 0) → Type 0 → Type 0 → Linked → Linked → UserRequest → List ℕ
    → Option (List ℕ) → Type 0
ForUser Others no_entry not_kept before after request text None =
    (text ≡ connection_fault_text NotSignedIn) × (after ≡ before)
ForUser Others no_entry not_kept before after request text (Some user) =
    (AnswersOnce Others before after user request text
    ⊎ TellsFault Others no_entry not_kept before after user request text)
    × StaysOn before after × IsAccepted after.opening after.journal

-- what is answered to a greeting: the user is signed in, or isn't known, or no version could be entered
pub record Greets (Others : List Entry → List Entry → Type 0) (no_entry : Type 0) (before after : Linked)
    (name token text : List ℕ) : Type 0 where
  pub later : HasGoneOn before after
  pub accepted : IsAccepted after.opening after.journal
  pub others : Others before.journal after.journal
  pub none : EntersNone before after
  pub told :
      (IsOwnToken after name token × (after.user ≡ Some name) × (text ≡ hello_text name))
      ⊎ (((¬ IsOwnToken after name token) × (after.user ≡ before.user) × (text ≡ connection_fault_text NotKnown))
      ⊎ (no_entry × (after.journal ≡ before.journal) × (after.user ≡ before.user)
      × (text ≡ connection_fault_text NoEntry)))

-- what is answered to what a message wants
abbrev pub ServesBody : (List Entry → List Entry → Type 0) → Type 0 → Type 0 → Linked → Linked → List ℕ → RequestBody
    → Type 0
ServesBody Others no_entry not_kept before after text (OfUser request) =
    ForUser Others no_entry not_kept before after request text before.user
ServesBody Others no_entry not_kept before after text (Hello name token) =
    Greets Others no_entry before after name token text

-- what is answered to what was read, if anything was
abbrev pub ServesRead : (List Entry → List Entry → Type 0) → Type 0 → Type 0 → Linked → Linked → List ℕ
    → Result RequestBody RequestFault → Type 0
ServesRead Others no_entry not_kept before after text (Ok wanted) =
    ServesBody Others no_entry not_kept before after text wanted
ServesRead Others no_entry not_kept before after text (Err fault) = (text ≡ fault_text fault) × (after ≡ before)

-- what is answered to a message, which is read by the session's edition of the policy
unfoldable pub Serves : (List Entry → List Entry → Type 0) → Type 0 → Type 0 → Linked → Linked → List ℕ → List ℕ
    → Type 0
Serves Others no_entry not_kept before after message text =
    ServesRead Others no_entry not_kept before after text (connection_meaning before.opening.public.edition message)

-- ---- messages to which memory was refused

-- nothing came of it: nothing joined the journal, and the keeper has entered nothing
abbrev pub AddsNothing : Linked → Linked → Type 0
AddsNothing before after = (after.journal ≡ before.journal) × EntersNone before after

-- nothing came of it but what others added
abbrev pub OthersAdd : (List Entry → List Entry → Type 0) → Linked → Linked → Type 0
OthersAdd Others before after = Others before.journal after.journal × EntersNone before after

-- nothing came of a request of a user, or all but its text
abbrev pub LeavesRequest : (List Entry → List Entry → Type 0) → Linked → Linked → UserRequest → Option (List ℕ) → Type 0
LeavesRequest Others before after request None = AddsNothing before after
LeavesRequest Others before after request (Some user) =
    AddsNothing before after
    ⊎ ((OthersAdd Others before after ⊎ ((text : List ℕ) × AnswersOnce Others before after user request text))
    × IsAccepted after.opening after.journal)

-- nothing came of what a message wants, or all but its text, or what others added
abbrev pub LeavesBody : (List Entry → List Entry → Type 0) → Linked → Linked → RequestBody → Type 0
LeavesBody Others before after (OfUser request) = LeavesRequest Others before after request before.user
LeavesBody Others before after (Hello name token) =
    AddsNothing before after ⊎ (OthersAdd Others before after × IsAccepted after.opening after.journal)

abbrev pub Leaves : (List Entry → List Entry → Type 0) → Linked → Linked → Result RequestBody RequestFault → Type 0
Leaves Others before after (Ok wanted) = LeavesBody Others before after wanted
Leaves Others before after (Err fault) = AddsNothing before after

-- memory was refused to a message: who was signed in still is
unfoldable pub HasNoAnswer : (List Entry → List Entry → Type 0) → Linked → Linked → List ℕ → Type 0
HasNoAnswer Others before after message =
    StaysOn before after × Leaves Others before after (connection_meaning before.opening.public.edition message)

-- ---- for private clauses

-- the fault of a connection for why a request has no answer
abbrev pub is_fault_of : {S : Type 0} → Result S AnswerFault → Result S ConnectionFault
is_fault_of (Ok text) = Ok text
is_fault_of (Err unanswered.NoEntry) = Err NoEntry
is_fault_of (Err unanswered.NotKept) = Err NotKept
is_fault_of (Err unanswered.Unsure) = Err Unsure
is_fault_of (Err unanswered.OutOfMemory) = Err OutOfMemory

-- the text that was written, or that of the fault in its place; want of memory has none
abbrev pub IsToldOf : {S : Type 0} → (S → List ℕ) → Result S ConnectionFault → List ℕ → Type 0
IsToldOf bytes (Ok written) text = text ≡ bytes written
IsToldOf bytes (Err fault) text = (text ≡ connection_fault_text fault) × (fault ≢ OutOfMemory)
