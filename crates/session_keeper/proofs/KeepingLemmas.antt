-- A journal that a keeper stands for begins with those that it stood for.
use Rattle.std.proofs.Common.{◌≡◌, ◌↔◌, ℕ, Bool, length, List, [], ◌∷◌, ◌++◌, refl, sym, ap, ◌∙◌, append_assoc}
use Rattle.std.specs.Prelude.{IfOk, IfErr, OnOk}
use mathlib.Core.List.{IsPrefix}
use Rattle.session_commands.specs.declared.actor.Actor.{Actor}
use Rattle.session_book.specs.declared.answer.Answer.{Answer}
use Rattle.session_state.specs.SessionState.{SessionState}
use Rattle.session_commands.specs.declared.command.Command.{Command}
use Rattle.session_commands.specs.declared.entry.Entry.{Entry}
use Rattle.rbac.specs.Authorization.{HasPermission, IsValid}
use Rattle.session_roles.specs.declared.operation.Operation.TheVariants.{Audit}
use Rattle.session_book.specs.Audit.{audit_rows}
use Rattle.session_book.specs.declared.audit.AuditError.TheVariants.{NotPermitted}
use Rattle.session_book.specs.Journal.{Ledger, state_of, IsAccepted}
use Rattle.session_book.specs.Run.{Progress, Runs, IsTried}
use Rattle.session_keeper.specs.declared.receipt.AuditReceipt.{AuditReceipt}
use Rattle.session_keeper.specs.Keeping.{GoesOn, IsAuditOf}
use Rattle.session_keeper.proofs.GrowthLemmas.{Extends, runs_extend, tried_extends, exact_version}

-- a list begins with itself
pub prefix_self : (entries : List Entry) → IsPrefix entries entries
prefix_self [] = ([], refl)
prefix_self (entry ∷ entries) = let rest = prefix_self entries in (rest.0, ap (λ es. entry ∷ es) rest.1)

pub prefix_trans : (before middle after : List Entry) → IsPrefix before middle → IsPrefix middle after →
    IsPrefix before after
prefix_trans before middle after first then =
    (first.0 ++ then.0, sym (append_assoc before first.0 then.0) ∙ (ap (λ es. es ++ then.0) first.1 ∙ then.1))

-- a batch's journal begins with the one before it
pub runs_begin : (stopped : Bool) (opening : SessionState) (before : List Entry) (actor : List ℕ) (batch : List Command)
    (after : Progress) →
    Runs stopped opening before actor batch after → IsPrefix before after.journal
runs_begin stopped opening before actor batch after ran =
    let extends = runs_extend stopped opening before actor batch after ran in (extends.0, sym extends.1)

-- a journal that stays goes on
pub goes_on_itself : (opening : SessionState) (journal : List Entry) → GoesOn opening journal opening journal
goes_on_itself opening journal = record { same = refl; begins = prefix_self journal }

-- a journal with others after it begins with it
extended_begins : (before after : List Entry) → Extends before after → IsPrefix before after
extended_begins before after extends = (extends.0, sym extends.1)

-- so does the journal after a command that was tried by itself
pub tried_begins : (before after : Ledger) (actor : Actor) (command : Command) (answer : Answer) →
    IsTried before actor command answer after → IsPrefix before.journal after.journal
tried_begins before after actor command answer tried =
    extended_begins before.journal after.journal (tried_extends before after actor command answer tried)

-- the audit of a book that is kept alone
pub audit_alone : (ledger : Ledger) (actor : List ℕ) (from limit : ℕ) (receipt : AuditReceipt) →
    IfOk receipt.rows (λ rows. rows ≡ audit_rows ledger.journal from limit) →
    OnOk receipt.rows (HasPermission (state_of ledger).roles actor Audit) →
    IfErr receipt.rows (λ error. (error ≡ NotPermitted) ↔ (¬ HasPermission (state_of ledger).roles actor Audit)) →
    IsValid (state_of ledger).roles → receipt.version ≡ length ledger.journal →
    IsAccepted ledger.opening ledger.journal →
    IsAuditOf (λ before after. after ≡ before) ledger.opening ledger.journal actor from limit receipt ledger.journal
audit_alone ledger actor from limit receipt rows permitted refused valid version accepted = record {
  journal = ledger.journal;
  came = refl;
  rows = rows;
  permitted = permitted;
  refused = refused;
  valid = valid;
  version = version ∙ sym (exact_version ledger.opening ledger.journal accepted);
  went = refl;
  begins = prefix_self ledger.journal;
}
