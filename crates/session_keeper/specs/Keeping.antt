-- What one who keeps a session tells, and how the journal that it stands for grows. While it is asked, others may lead
-- the journal on; by how much is the keeper's own: not at all, where it keeps the session alone.
use Rattle.std.specs.Prelude.{◌≡◌, ◌↔◌, ℕ, ◌+◌, Bool, List, length, IfOk, IfErr, OnOk}
use mathlib.Core.List.{IsPrefix}
use Rattle.rbac.specs.Authorization.{HasPermission, IsValid}
use Rattle.session_roles.specs.declared.operation.Operation.TheVariants.{Audit}
use Rattle.session_state.specs.SessionState.{SessionState}
use Rattle.session_commands.specs.declared.actor.Actor.TheVariants.{Solver}
use Rattle.session_commands.specs.declared.command.Command.{Command}
use Rattle.session_commands.specs.declared.entry.Entry.{Entry}
use Rattle.session_book.specs.Audit.{audit_rows}
use Rattle.session_book.specs.declared.answer.Answer.{Answer}
use Rattle.session_book.specs.declared.audit.AuditError.TheVariants.{NotPermitted}
use Rattle.session_book.specs.Journal.{replay}
use Rattle.session_book.specs.Run.{Runs, IsTried, first_number, last_number}
use Rattle.published_view.specs.View.{version_of}
use Rattle.published_view.specs.World.{book_with}
use Rattle.session_keeper.specs.declared.receipt.AuditReceipt.{AuditReceipt}
use Rattle.session_keeper.specs.declared.receipt.BatchReceipt.{BatchReceipt}

-- of one session, a journal that begins with another
pub record GoesOn (opening : SessionState) (before : List Entry) (later_opening : SessionState) (later : List Entry)
    : Type 0 where
  pub same : later_opening ≡ opening
  pub begins : IsPrefix before later

-- one who had entered so many entries of the session has entered, since, just as many as lead from one journal to another
abbrev pub EntersJust : ℕ → List Entry → ℕ → List Entry → Type 0
EntersJust own met own_now left = own_now + length met ≡ own + length left

-- a user's batch ran once. It met a journal to which others had led from the one before the call, and left another: it
-- ran whole, or up to a command for which memory was refused. The receipt has its answers, the numbers of what joined
-- the journal, and the version that it left; and others have led on from there to the journal after the call. The keeper
-- has entered that, and nothing else
pub record RanOnce (Others : List Entry → List Entry → Type 0) (opening : SessionState) (own : ℕ) (before : List Entry)
    (actor : List ℕ) (batch : List Command) (receipt : BatchReceipt) (own_now : ℕ) (now : List Entry) : Type 0 where
  pub met : List Entry
  pub left : List Entry
  pub stopped : Bool
  pub came : Others before met
  pub ran :
      Runs stopped opening met actor batch (record { journal = left; answers = receipt.submission.answers.items })
  pub first : receipt.submission.first ≡ first_number (length met) (length left)
  pub last : receipt.submission.last ≡ last_number (length met) (length left)
  pub version : receipt.version ≡ version_of left
  pub entered : EntersJust own met own_now left
  pub went : Others left now
  pub begins : IsPrefix left now

-- a command of the solver's was tried once, with this answer, between such journals
pub record TriedOnce (Others : List Entry → List Entry → Type 0) (opening : SessionState) (own : ℕ)
    (before : List Entry) (command : Command) (answer : Answer) (own_now : ℕ) (now : List Entry) : Type 0 where
  pub met : List Entry
  pub left : List Entry
  pub came : Others before met
  pub tried : IsTried (book_with opening met) Solver command answer (book_with opening left)
  pub entered : EntersJust own met own_now left
  pub went : Others left now
  pub begins : IsPrefix left now

-- the audit of a journal to which others had led from the one before the call, and from which they have led on to the
-- one after it
pub record IsAuditOf (Others : List Entry → List Entry → Type 0) (opening : SessionState) (before : List Entry)
    (actor : List ℕ) (from limit : ℕ) (receipt : AuditReceipt) (now : List Entry) : Type 0 where
  pub journal : List Entry
  pub came : Others before journal
  pub rows : IfOk receipt.rows (λ rows. rows ≡ audit_rows journal from limit)
  pub permitted : OnOk receipt.rows (HasPermission (replay opening journal).roles actor Audit)
  pub refused : IfErr receipt.rows (λ error.
      (error ≡ NotPermitted) ↔ (¬ HasPermission (replay opening journal).roles actor Audit))
  pub valid : IsValid (replay opening journal).roles
  pub version : receipt.version ≡ version_of journal
  pub went : Others journal now
  pub begins : IsPrefix journal now
