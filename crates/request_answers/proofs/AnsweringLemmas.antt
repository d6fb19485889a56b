-- What a keeper told of a request is what its response is.
use Rattle.std.proofs.Common.{
  ◌≡◌,
  ◌+◌,
  ◌↔◌,
  inr,
  ℕ,
  Bool,
  true,
  false,
  List,
  [],
  ◌∷◌,
  ◌++◌,
  map,
  take,
  drop,
  length,
  refl,
  sym,
  ap,
  subst,
  ◌∙◌,
}
use Rattle.std.specs.Prelude.{Option, Some, None, Result, Ok, Err, IfOk, IfErr, OnOk, OnErr, is_some, if◌then◌else◌}
use mathlib.Core.List.{IsPrefix}
use Rattle.rbac.specs.Authorization.{HasPermission, has_permission}
use Rattle.rbac.proofs.LawLemmas.{permission_exact}
use Rattle.session_roles.specs.declared.operation.Operation.TheVariants as operation
use Rattle.session_state.specs.SessionState.{SessionState}
use Rattle.session_commands.specs.declared.command.Command.{Command}
use Rattle.session_commands.specs.declared.entry.Entry.{Entry}
use Rattle.session_commands.specs.declared.refusal.Refusal.TheVariants as refusal
use Rattle.session_book.specs.Audit.{audit_rows}
use Rattle.session_book.specs.declared.answer.Answer.TheVariants.{Refused}
use Rattle.session_book.specs.declared.audit.AuditError.{AuditError}
use Rattle.session_book.specs.declared.audit.AuditError.TheVariants as error
use Rattle.session_book.specs.declared.audit.AuditRow.{AuditRow}
use Rattle.session_book.specs.Journal.{replay}
use Rattle.session_book.specs.Run.{Progress, run, Runs}
use Rattle.session_queries.specs.declared.query.Query.{Query}
use Rattle.session_queries.specs.declared.reply.Reply.{Reply}
use Rattle.published_view.specs.View.{version_of, reply_after}
use Rattle.session_keeper.specs.Keeping.{RanOnce, IsAuditOf, EntersJust}
use Rattle.session_keeper.specs.declared.receipt.AuditReceipt.{AuditReceipt}
use Rattle.session_keeper.specs.declared.receipt.BatchReceipt.{BatchReceipt}
use Rattle.session_keeper.proofs.KeepingLemmas.{prefix_self}
use Rattle.reply_texts.specs.ReplyText.{reply_text}
use Rattle.wire.specs.AuditText.{audit_text, audit_refusal_text}
use Rattle.wire.specs.ReceiptText.{receipt_text}
use Rattle.wire.specs.declared.audit_range.AuditRange.{AuditRange}
use Rattle.wire.specs.declared.request.UserRequest.TheVariants as wanting
use Rattle.request_answers.specs.Answering.{IsAnsweredOnce, IsRowsText, IsTakenIn, EntersItOnce}
use Rattle.request_answers.specs.Response.{audit_reply, receipt_of, run_with, stopped_at}

-- what holds in any case, holds where there is an error
pub on_err : {T E : Type 0} (r : Result T E) (P : Type 0) → P → OnErr r P
on_err (Ok x) P holds = tt
on_err (Err e) P holds = holds

-- a query's reply
pub query_answered : (Others : List Entry → List Entry → Type 0) (opening : SessionState) (before : List Entry)
    (user : List ℕ) (query : Query) (since : ℕ) (reply : Reply) (text : List ℕ) (now : List Entry) →
    Others before now → reply ≡ reply_after opening now user query since → text ≡ reply_text reply →
    IsAnsweredOnce Others opening before user (wanting.Query query since) text now
query_answered Others opening before user query since reply text now came is written = record {
  met = now;
  refused_at = None;
  came = came;
  says = sym (written ∙ ap reply_text is);
  went = refl;
  begins = prefix_self now;
}

-- a keeper that has entered nothing since
pub enters_none : (own own_now : ℕ) (journal : List Entry) → own_now ≡ own → EntersJust own journal own_now journal
enters_none own own_now journal same = ap (λ n. n + length journal) same

-- and its keeper has entered nothing
pub query_entered : (Others : List Entry → List Entry → Type 0) (opening : SessionState) (before : List Entry)
    (user : List ℕ) (query : Query) (since : ℕ) (reply : Reply) (text : List ℕ) (own own_now : ℕ) (now : List Entry) →
    Others before now → reply ≡ reply_after opening now user query since → text ≡ reply_text reply → own_now ≡ own →
    EntersItOnce Others opening own before user (wanting.Query query since) text own_now now
unfolding query_answered
query_entered Others opening before user query since reply text own own_now now came is written same = record {
  once = query_answered Others opening before user query since reply text now came is written;
  entered = enters_none own own_now now same;
}

-- ---- batches

module _ (opening : SessionState) (journal : List Entry) where
  -- a place in a batch where memory was refused
  abbrev place : (stopped : Bool) (actor : List ℕ) (batch : List Command) (after : Progress) → Runs stopped opening
      journal actor batch after → Option ℕ
  place false actor batch after runs = None
  place true actor batch after runs = Some (length runs.tried)

  taken : (tried : List Command) (command : Command) (later : List Command) → take (length tried)
      (tried ++ command ∷ later) ≡ tried
  taken [] command later = refl
  taken (first ∷ tried) command later = ap (λ commands. first ∷ commands) (taken tried command later)

  dropped : (tried : List Command) (command : Command) (later : List Command) → drop (length tried)
      (tried ++ command ∷ later) ≡ command ∷ later
  dropped [] command later = refl
  dropped (first ∷ tried) command later = dropped tried command later

  -- what a batch comes to is what it comes to with memory refused there
  runs_with : (stopped : Bool) (actor : List ℕ) (batch : List Command) (after : Progress) →
      (runs : Runs stopped opening journal actor batch after) →
      run_with (place stopped actor batch after runs) opening journal actor batch ≡ after
  runs_with false actor batch after runs = sym runs
  runs_with true actor batch after runs =
      let whole : Progress = run opening journal actor batch in
      let so_far : Progress = run opening journal actor runs.tried in
      ap (λ commands. stopped_at opening actor whole (run opening journal actor (take (length runs.tried) commands))
      (drop (length runs.tried) commands)) runs.split
      ∙ (λ i. stopped_at opening actor whole (run opening journal actor (taken runs.tried runs.command runs.later i))
      (dropped runs.tried runs.command runs.later i))
      ∙ ap (λ o. if is_some o then whole else record {
        journal = so_far.journal;
        answers = so_far.answers
            ++ Refused refusal.OutOfMemory ∷ map (λ _. Refused refusal.NotTried) runs.later;
      }) runs.accepted
      ∙ (λ i. record { journal = sym runs.journal i; answers = sym runs.answers i })

-- a batch's receipt
pub batch_answered : (Others : List Entry → List Entry → Type 0) (opening : SessionState) (before : List Entry)
    (user : List ℕ) (commands : List Command) (receipt : BatchReceipt) (text : List ℕ) (own own_now : ℕ)
    (now : List Entry) →
    RanOnce Others opening own before user commands receipt own_now now →
    text ≡ receipt_text receipt.submission.answers.items receipt.submission.first receipt.submission.last
    receipt.version →
    IsAnsweredOnce Others opening before user (wanting.Batch commands) text now
batch_answered Others opening before user commands receipt text own own_now now once written =
    let after : Progress = record { journal = once.left; answers = receipt.submission.answers.items } in
    let at = place opening once.met once.stopped user commands after once.ran in
    let ran : run_with at opening once.met user commands ≡ after = runs_with opening once.met once.stopped user commands
    after once.ran in
    record {
      met = once.met;
      refused_at = at;
      came = once.came;
      says =
          ap (receipt_of once.met) ran
          ∙ (λ i. receipt_text receipt.submission.answers.items (sym once.first i) (sym once.last i)
          (sym once.version i))
          ∙ sym written;
      went = subst (λ left. Others left now) (ap (λ (p : Progress). p.journal) (sym ran)) once.went;
      begins = subst (λ left. IsPrefix left now) (ap (λ (p : Progress). p.journal) (sym ran)) once.begins;
    }

-- and its keeper has entered just what joined
pub batch_entered : (Others : List Entry → List Entry → Type 0) (opening : SessionState) (before : List Entry)
    (user : List ℕ) (commands : List Command) (receipt : BatchReceipt) (text : List ℕ) (own own_now : ℕ)
    (now : List Entry) →
    RanOnce Others opening own before user commands receipt own_now now →
    text ≡ receipt_text receipt.submission.answers.items receipt.submission.first receipt.submission.last
    receipt.version →
    EntersItOnce Others opening own before user (wanting.Batch commands) text own_now now
unfolding batch_answered
batch_entered Others opening before user commands receipt text own own_now now once written =
    let after : Progress = record { journal = once.left; answers = receipt.submission.answers.items } in
    record {
      once = batch_answered Others opening before user commands receipt text own own_now now once written;
      entered =
          subst (λ (p : Progress). EntersJust own once.met own_now p.journal)
          (sym (runs_with opening once.met once.stopped user commands after once.ran)) once.entered;
    }

-- where there is no memory for its text
pub batch_taken_in : (Others : List Entry → List Entry → Type 0) (opening : SessionState) (before : List Entry)
    (user : List ℕ) (commands : List Command) (receipt : BatchReceipt) (own own_now : ℕ) (now : List Entry) →
    RanOnce Others opening own before user commands receipt own_now now →
    IsTakenIn Others opening before user (wanting.Batch commands) now
batch_taken_in Others opening before user commands receipt own own_now now once =
    inr (_, batch_answered Others opening before user commands receipt _ own own_now now once refl)

-- ---- audits

-- a test that holds only where the user has the permission
test_fails : (b : Bool) (P : Type 0) → (b ≡ true → P) → ¬ P → b ≡ false
test_fails true P only none = absurd (none (only refl))
test_fails false P only none = refl

-- an audit's receipt
pub audit_answered : (Others : List Entry → List Entry → Type 0) (opening : SessionState) (before : List Entry)
    (user : List ℕ) (range : AuditRange) (receipt : AuditReceipt) (text : List ℕ) (now : List Entry) →
    IsAuditOf Others opening before user range.from range.limit receipt now →
    IsRowsText receipt.rows receipt.version text →
    IsAnsweredOnce Others opening before user (wanting.Audit range) text now
audit_answered Others opening before user range receipt text now audit written = record {
  met = audit.journal;
  refused_at = None;
  came = audit.came;
  says = by receipt.rows audit.rows audit.permitted audit.refused written;
  went = audit.went;
  begins = audit.begins;
}
  where
    Has : Type 0
    Has = HasPermission (replay opening audit.journal).roles user operation.Audit

    exact : (has_permission (replay opening audit.journal).roles user operation.Audit ≡ true) ↔ Has
    exact = permission_exact (replay opening audit.journal).roles user operation.Audit audit.valid

    shown : Bool → List ℕ
    shown permitted =
        if permitted then audit_text (audit_rows audit.journal range.from range.limit) (version_of audit.journal)
        else audit_refusal_text

    by : (rows : Result (List AuditRow) AuditError) → IfOk rows (λ found. found ≡ audit_rows audit.journal range.from
        range.limit) → OnOk rows Has →
        IfErr rows (λ fault. (fault ≡ error.NotPermitted) ↔ (¬ Has)) → IsRowsText rows receipt.version text →
        audit_reply opening audit.journal user range ≡ text
    by (Ok rows) same permitted refused written =
        ap shown (exact.1 permitted) ∙ (λ i. audit_text (sym same i) (sym audit.version i)) ∙ sym written
    by (Err error.NotPermitted) same permitted refused written =
        ap shown (test_fails (has_permission (replay opening audit.journal).roles user operation.Audit) Has exact.0
        (refused.0 refl)) ∙ sym written
    by (Err error.OutOfMemory) same permitted refused written = absurd written

-- and its keeper has entered nothing
pub audit_entered : (Others : List Entry → List Entry → Type 0) (opening : SessionState) (before : List Entry)
    (user : List ℕ) (range : AuditRange) (receipt : AuditReceipt) (text : List ℕ) (own own_now : ℕ)
    (now : List Entry) →
    IsAuditOf Others opening before user range.from range.limit receipt now → own_now ≡ own →
    IsRowsText receipt.rows receipt.version text →
    EntersItOnce Others opening own before user (wanting.Audit range) text own_now now
unfolding audit_answered
audit_entered Others opening before user range receipt text own own_now now audit same written = record {
  once = audit_answered Others opening before user range receipt text now audit written;
  entered = enters_none own own_now audit.journal same;
}

-- where there is no memory for its text
pub audit_taken_in : (Others : List Entry → List Entry → Type 0) (opening : SessionState) (before : List Entry)
    (user : List ℕ) (range : AuditRange) (receipt : AuditReceipt) (now : List Entry) →
    IsAuditOf Others opening before user range.from range.limit receipt now →
    IsTakenIn Others opening before user (wanting.Audit range) now
audit_taken_in Others opening before user range receipt now audit =
    inr (
      audit_reply opening audit.journal user range,
      record {
        met = audit.journal;
        refused_at = None;
        came = audit.came;
        says = refl;
        went = audit.went;
        begins =
            audit.begins;
      },
    )

-- then too its keeper has entered nothing
pub audit_entered_untold : (Others : List Entry → List Entry → Type 0) (opening : SessionState) (before : List Entry)
    (user : List ℕ) (range : AuditRange) (receipt : AuditReceipt) (own own_now : ℕ) (now : List Entry) →
    IsAuditOf Others opening before user range.from range.limit receipt now → own_now ≡ own →
    (text : List ℕ) × EntersItOnce Others opening own before user (wanting.Audit range) text own_now now
audit_entered_untold Others opening before user range receipt own own_now now audit same = (
  audit_reply opening audit.journal user range,
  record {
    once = record {
      met = audit.journal;
      refused_at = None;
      came = audit.came;
      says = refl;
      went = audit.went;
      begins = audit.begins;
    };
    entered = enters_none own own_now audit.journal same;
  },
)

-- a batch of commands under another name
pub same_batch : (Others : List Entry → List Entry → Type 0) (opening : SessionState) (before : List Entry)
    (user : List ℕ) (given commands : List Command) (receipt : BatchReceipt) (own own_now : ℕ) (now : List Entry) →
    given ≡ commands → RanOnce Others opening own before user given receipt own_now now →
    RanOnce Others opening own before user commands receipt own_now now
same_batch Others opening before user given commands receipt own own_now now same ran =
    subst (λ batch. RanOnce Others opening own before user batch receipt own_now now) same ran
