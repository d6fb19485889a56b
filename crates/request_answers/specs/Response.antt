-- What a user's request comes to at a journal: the journal after it, and the text that answers it. Scripts and
-- connections are answered so.
use Rattle.std.specs.Prelude.{
  ℕ,
  is_some,
  if◌then◌else◌,
  Option,
  Some,
  None,
  List,
  ◌∷◌,
  [],
  ◌++◌,
  map,
  take,
  drop,
  length,
}
use Rattle.rbac.specs.Authorization.{has_permission}
use Rattle.session_roles.specs.declared.operation.Operation.TheVariants as operation
use Rattle.session_state.specs.SessionState.{SessionState}
use Rattle.session_commands.specs.declared.actor.Actor.TheVariants.{User}
use Rattle.session_commands.specs.declared.command.Command.{Command}
use Rattle.session_commands.specs.declared.entry.Entry.{Entry}
use Rattle.session_commands.specs.declared.refusal.Refusal.TheVariants.{OutOfMemory, NotTried}
use Rattle.session_book.specs.Audit.{audit_rows}
use Rattle.session_book.specs.declared.answer.Answer.TheVariants.{Refused}
use Rattle.session_book.specs.Journal.{replay, refusal_after}
use Rattle.session_book.specs.Run.{Progress, run, first_number, last_number}
use Rattle.published_view.specs.View.{version_of, reply_after}
use Rattle.reply_texts.specs.ReplyText.{reply_text}
use Rattle.wire.specs.AuditText.{audit_text, audit_refusal_text}
use Rattle.wire.specs.ReceiptText.{receipt_text}
use Rattle.wire.specs.declared.audit_range.AuditRange.{AuditRange}
use Rattle.wire.specs.declared.request.UserRequest.{UserRequest}
use Rattle.wire.specs.declared.request.UserRequest.TheVariants.{Query, Batch, Audit}

-- the journal after a request, and the text that answers it
pub record Response : Type 0 where
  pub journal : List Entry
  pub text : List ℕ

-- ---- batches

-- a batch with memory refused at the first of these commands: those after it are not tried. Where something else
-- refuses it, or none is left, memory is not the cause, and the batch is run whole
abbrev pub stopped_at : SessionState → List ℕ → Progress → Progress → List Command → Progress
stopped_at opening actor whole so_far [] = whole
stopped_at opening actor whole so_far (command ∷ later) =
    if is_some (refusal_after opening so_far.journal (User actor) command) then whole
    else record {
      journal = so_far.journal;
      answers = so_far.answers ++ Refused OutOfMemory ∷ map (λ _. Refused NotTried) later;
    }

-- what becomes of a batch, where memory may be refused at one of its commands, which comes after so many others
abbrev pub run_with : Option ℕ → SessionState → List Entry → List ℕ → List Command → Progress
run_with None opening journal actor batch = run opening journal actor batch
run_with (Some k) opening journal actor batch =
    stopped_at opening actor (run opening journal actor batch) (run opening journal actor (take k batch)) (drop k batch)

-- the text of a batch's receipt, from the journal before it
abbrev pub receipt_of : List Entry → Progress → List ℕ
receipt_of before after =
    receipt_text after.answers (first_number (length before) (length after.journal))
    (last_number (length before) (length after.journal)) (version_of after.journal)

-- ---- audits

-- the rows, for a user with the permission for the audit; any other is told that there is none
abbrev pub audit_reply : SessionState → List Entry → List ℕ → AuditRange → List ℕ
audit_reply opening journal user range =
    if has_permission (replay opening journal).roles user operation.Audit
    then audit_text (audit_rows journal range.from range.limit) (version_of journal)
    else audit_refusal_text

-- ---- requests

-- a query has its reply and leaves the journal as it is, a batch its receipt, and an audit its rows. Memory may be
-- refused at a command of a batch
abbrev pub response_at : SessionState → List Entry → Option ℕ → List ℕ → UserRequest → Response
response_at opening journal refused_at user (Query query since) =
    record { journal = journal; text = reply_text (reply_after opening journal user query since) }
response_at opening journal refused_at user (Batch commands) =
    let after = run_with refused_at opening journal user commands in
    record { journal = after.journal; text = receipt_of journal after }
response_at opening journal refused_at user (Audit range) =
    record { journal = journal; text = audit_reply opening journal user range }
