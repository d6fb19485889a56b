-- What a keeper answers a user's request, over the journals for which it stands before and after. Others may lead the
-- journal on meanwhile, where the keeper doesn't keep its session alone.
use Rattle.std.specs.Prelude.{◌≡◌, ◌⊎◌, ℕ, Option, List, Result, Ok, Err}
use mathlib.Core.List.{IsPrefix}
use Rattle.session_state.specs.SessionState.{SessionState}
use Rattle.session_commands.specs.declared.entry.Entry.{Entry}
use Rattle.session_keeper.specs.Keeping.{EntersJust}
use Rattle.session_book.specs.declared.audit.AuditError.{AuditError}
use Rattle.session_book.specs.declared.audit.AuditError.TheVariants as error
use Rattle.session_book.specs.declared.audit.AuditRow.{AuditRow}
use Rattle.wire.specs.AuditText.{audit_text, audit_refusal_text}
use Rattle.wire.specs.declared.request.UserRequest.{UserRequest}
use Rattle.wire.specs.declared.request.UserRequest.TheVariants.{Query, Batch, Audit}
use Rattle.request_answers.specs.Response.{response_at}
use Rattle.request_answers.specs.declared.answer_fault.AnswerFault.{AnswerFault}
use Rattle.request_answers.specs.declared.answer_fault.AnswerFault.TheVariants.{
  NoEntry,
  NotKept,
  Unsure,
  OutOfMemory,
}

-- the journal for which the keeper stands after it left one: a query is answered of the journal that is then known;
-- after a batch or an audit others may have led on
abbrev pub LeadsOn : (List Entry → List Entry → Type 0) → UserRequest → List Entry → List Entry → Type 0
LeadsOn Others (Query query since) left now = now ≡ left
LeadsOn Others (Batch commands) left now = Others left now
LeadsOn Others (Audit range) left now = Others left now

-- a request was answered, once. It met a journal to which others had led from the one before the call; the text is the
-- one of its response there, where memory may have been refused at a command of a batch; and the journal that the
-- response left is the beginning of the one after the call
pub record IsAnsweredOnce (Others : List Entry → List Entry → Type 0) (opening : SessionState) (before : List Entry)
    (user : List ℕ) (request : UserRequest) (text : List ℕ) (now : List Entry) : Type 0 where
  pub met : List Entry
  pub refused_at : Option ℕ
  pub came : Others before met
  pub says : (response_at opening met refused_at user request).text ≡ text
  pub went : LeadsOn Others request (response_at opening met refused_at user request).journal now
  pub begins : IsPrefix (response_at opening met refused_at user request).journal now

-- it was answered, once, by a keeper that had entered so many entries of the session, and has entered since just what
-- its response has that the journal which it met hasn't: no entry twice, and none beside
pub record EntersItOnce (Others : List Entry → List Entry → Type 0) (opening : SessionState) (own : ℕ)
    (before : List Entry) (user : List ℕ) (request : UserRequest) (text : List ℕ) (own_now : ℕ) (now : List Entry)
    : Type 0 where
  pub once : IsAnsweredOnce Others opening before user request text now
  pub entered : EntersJust own once.met own_now (response_at opening once.met once.refused_at user request).journal

-- where there is no text: nothing came of the request but what others did, and the keeper has entered nothing; or, where
-- memory was refused for the text, just that
abbrev pub EntersNoneOrIt : (List Entry → List Entry → Type 0) → SessionState → ℕ → List Entry → List ℕ → UserRequest →
    AnswerFault → ℕ → List Entry → Type 0
EntersNoneOrIt Others opening own before user request fault own_now now =
    ((own_now ≡ own) × ((now ≡ before) ⊎ Others before now))
    ⊎ ((fault ≡ OutOfMemory) × (text : List ℕ) × EntersItOnce Others opening own before user request text own_now now)

-- where memory was refused: nothing came of the request, or all but its text
abbrev pub IsTakenIn : (List Entry → List Entry → Type 0) → SessionState → List Entry → List ℕ → UserRequest →
    List Entry
    → Type 0
IsTakenIn Others opening before user request now =
    Others before now ⊎ ((text : List ℕ) × IsAnsweredOnce Others opening before user request text now)

-- a query
abbrev pub WantsReply : UserRequest → Type 0
WantsReply (Query query since) = Unit {0}
WantsReply (Batch commands) = ⊥
WantsReply (Audit range) = ⊥

-- a batch
abbrev pub WantsReceipt : UserRequest → Type 0
WantsReceipt (Query query since) = ⊥
WantsReceipt (Batch commands) = Unit {0}
WantsReceipt (Audit range) = ⊥

-- why a request has no answer: to a query no version could be entered, which left all as it was; a batch isn't kept, or
-- it isn't known whether it is, and nothing but what others did has joined; or memory was refused
abbrev pub IsUnanswered : (List Entry → List Entry → Type 0) → Type 0 → Type 0 → SessionState → List Entry → List ℕ
    → UserRequest → AnswerFault → List Entry → Type 0
IsUnanswered Others no_entry not_kept opening before user request NoEntry now =
    WantsReply request × no_entry × (now ≡ before)
IsUnanswered Others no_entry not_kept opening before user request NotKept now =
    WantsReceipt request × not_kept × Others before now
IsUnanswered Others no_entry not_kept opening before user request Unsure now =
    WantsReceipt request × not_kept × Others before now
IsUnanswered Others no_entry not_kept opening before user request OutOfMemory now =
    IsTakenIn Others opening before user request now

-- ---- for private clauses

-- the text of an audit's receipt
abbrev pub IsRowsText : Result (List AuditRow) AuditError → ℕ → List ℕ → Type 0
IsRowsText (Ok rows) version text = text ≡ audit_text rows version
IsRowsText (Err error.NotPermitted) version text = text ≡ audit_refusal_text
IsRowsText (Err error.OutOfMemory) version text = ⊥
