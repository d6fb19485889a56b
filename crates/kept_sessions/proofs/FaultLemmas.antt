-- Why the session of a journal isn't opened, told, reported or copied.
use Rattle.std.proofs.Common.{◌≡◌, ◌⊎◌, inl, inr, true, false, refl, sym, subst, IsUtf8, ℕ, ◌<◌, Bool, List, [], ◌∷◌, length, map, Option, None, Some, MatchOption, arith}
use Rattle.std.specs.Prelude.{◌==◌}
use Rattle.std.specs.Str.Lossy.{utf8_valid_len}
use Rattle.sqlite.specs.Order.{Row}
use Rattle.sqlite.specs.Recovery.{Image}
use Rattle.sqlite.specs.View.{doubt}
use Rattle.sqlite.specs.Files.{IsCleanLeft}
use Rattle.sqlite.specs.declared.file.Leftover.{Leftover}
use Rattle.sqlite_disk.specs.declared.Disk.{Ghosts}
use Rattle.journal_store.specs.declared.row_text.RowText.{RowText}
use Rattle.journal_store.specs.Kept.{texts_of}
use Rattle.journal_store.specs.Restart.{AreFound, HoldsRows}
use Rattle.journal_store.specs.Tables.{RowBytes, session_row}
use Rattle.journal_store.proofs.RestartLemmas.{reads_same, same_session}
use Rattle.session_state.specs.SessionState.{SessionState}
use Rattle.session_commands.specs.declared.entry.Entry.{Entry}
use Rattle.session_book.specs.Journal.{IsAccepted}
use Rattle.history.specs.Prefixes.{entries_of}
use Rattle.kept_entries.specs.KeptRows.{AreKeepable, rows_of}
use Rattle.row_journal.specs.declared.journal_fault.JournalFault.{JournalFault}
use Rattle.row_journal.specs.declared.journal_fault.JournalFault.TheVariants as journal
use Rattle.row_journal.specs.Faults.{IsOutage, is_file_failure, is_file_unopened}
use Rattle.row_journal.proofs.FaultLemmas.{not_refused, not_refused_alone, accepted_want}
use Rattle.kept_sessions.specs.Audited.{WhyNotTold}
use Rattle.kept_sessions.specs.Sources.{IsSessionOf, WhyNoSession}
use Rattle.kept_sessions.specs.Faults.{AreCleanlyLeft, HeldRows, IsFailedCopy, IsRowsFault, IsStartFailure, WhyFilesNotKept, WhyFilesNotTaken, WhyJournalNotTold, WhyNotCopied, WhyNotReopened, WhyNotTakenUp}
use Rattle.kept_sessions.specs.declared.source_fault.KeptSessionFault.{KeptSessionFault}
use Rattle.opened_session.specs.declared.opening_fault.OpeningFault.{OpeningFault}
use Rattle.kept_sessions.specs.declared.source_fault.KeptSessionFault.TheVariants.{OutOfMemory, Unread, Unopened, Journal, NoJournal, NotAccepted, CopyExists, CopyUnwritten}

-- ---- memory, the disk or another program

pub no_doubt : (clean : Bool) → clean ≡ true → doubt clean ≡ 0
unfolding doubt
no_doubt true is = refl
no_doubt false is = absurd cc

pub unopened_fails : (fault : JournalFault) → is_file_unopened fault ≡ true → is_file_failure fault ≡ true
unopened_fails journal.OutOfMemory is = refl
unopened_fails journal.Busy is = refl
unopened_fails journal.Damaged is = absurd cc
unopened_fails journal.Unread is = refl
unopened_fails journal.NotAJournal is = absurd cc
unopened_fails journal.OtherSession is = absurd cc
unopened_fails journal.Misnumbered is = absurd cc
unopened_fails (journal.Unreadable number) is = absurd cc
unopened_fails (journal.Unsolved number) is = absurd cc

module _ {D : Type 0} {g : Ghosts D} where
  -- what is so of files that are left, as far as no wrong answer of the disk was taken as true
  pub cleanly : (P : Type 0) (W : Leftover D g → Type 0) (left : Option (Leftover D g))
      → MatchOption left P (λ files. IsCleanLeft files → W files) → AreCleanlyLeft left → MatchOption left P W
  cleanly P W None why clean = why
  cleanly P W (Some files) why clean = why clean

-- ---- texts that open no session

module _ {D : Type 0} {g : Ghosts D} where
  pub texts_not_taken : (image : Image) (object boards : List ℕ) (left : Option (Leftover D g)) (fault : KeptSessionFault)
      → WhyNoSession object boards fault → WhyNotTakenUp image object boards left fault
  texts_not_taken image object boards left OutOfMemory why = tt
  texts_not_taken image object boards left (Unread file cause) why = absurd why
  texts_not_taken image object boards left (Unopened fault) why = why
  texts_not_taken image object boards left (Journal fault) why = absurd why
  texts_not_taken image object boards left NoJournal why = absurd why
  texts_not_taken image object boards left (NotAccepted number) why = absurd why
  texts_not_taken image object boards left CopyExists why = absurd why
  texts_not_taken image object boards left CopyUnwritten why = absurd why

  pub texts_not_reopened : (image : Image) (object boards : List ℕ) (rows : List _) (left : Option (Leftover D g))
      (fault : KeptSessionFault)
      → HeldRows image object boards rows → WhyNoSession object boards fault → WhyNotReopened image left fault
  texts_not_reopened image object boards rows left OutOfMemory held why = tt
  texts_not_reopened image object boards rows left (Unread file cause) held why = absurd why
  texts_not_reopened image object boards rows left (Unopened fault) held why = record {
    object = object;
    boards = boards;
    rows = rows;
    held = held;
    none = why;
  }
  texts_not_reopened image object boards rows left (Journal fault) held why = absurd why
  texts_not_reopened image object boards rows left NoJournal held why = absurd why
  texts_not_reopened image object boards rows left (NotAccepted number) held why = absurd why
  texts_not_reopened image object boards rows left CopyExists held why = absurd why
  texts_not_reopened image object boards rows left CopyUnwritten held why = absurd why

equal : (m n : ℕ) → (m == n) ≡ true → m ≡ n
equal m n is = grind arith

-- a session object that opens a session is a text in UTF-8
pub never_cut : (object boards : List ℕ) (opening : SessionState) (journal : List Entry) (budget valid : ℕ)
    → IsSessionOf object boards opening journal budget → valid ≡ utf8_valid_len object → valid < length object → ⊥
never_cut object boards opening journal budget valid session is short =
    omega (arith, equal _ _ session.opens.reads.is.object.utf8, is, short)

-- ---- rows that aren't read

-- two texts open no session for want of memory, or by what they say
pub memory_or_texts : (object boards : List ℕ) (fault : KeptSessionFault) → WhyNoSession object boards fault
    → (fault ≡ OutOfMemory) ⊎ ((cause : OpeningFault) × ((fault ≡ Unopened cause) × WhyNoSession object boards (Unopened cause)))
memory_or_texts object boards OutOfMemory why = inl refl
memory_or_texts object boards (Unread file cause) why = absurd why
memory_or_texts object boards (Unopened fault) why = inr (fault, (refl, why))
memory_or_texts object boards (Journal fault) why = absurd why
memory_or_texts object boards NoJournal why = absurd why
memory_or_texts object boards (NotAccepted number) why = absurd why
memory_or_texts object boards CopyExists why = absurd why
memory_or_texts object boards CopyUnwritten why = absurd why

module _ {D : Type 0} {g : Ghosts D} where
  pub rows_not_taken : (image : Image) (object boards : List ℕ) (rows : List RowText) (left : Option (Leftover D g))
      (fault : KeptSessionFault)
      → AreFound image (session_row object boards ∷ []) (map texts_of rows) → IsRowsFault rows fault
      → WhyNotTakenUp image object boards left fault
  rows_not_taken image object boards rows left fault found (cause, is, why) =
      subst (WhyNotTakenUp image object boards left) (sym is) (inr (record { rows = rows; found = found; unread = why }))

  pub rows_not_reopened : (image : Image) (object boards : List ℕ) (rows : List RowText) (left : Option (Leftover D g))
      (fault : KeptSessionFault)
      → HeldRows image object boards (map texts_of rows) → IsRowsFault rows fault → WhyNotReopened image left fault
  rows_not_reopened image object boards rows left fault held (cause, is, why) =
      subst (WhyNotReopened image left) (sym is) (inr (record {
        object = object;
        boards = boards;
        rows = rows;
        held = held;
        unread = why;
      }))

  -- ---- journals that aren't told

  pub not_reopened_told : (image : Image) (left : Option (Leftover D g)) (fault : KeptSessionFault) → WhyNotReopened image left fault
      → WhyJournalNotTold image left fault
  not_reopened_told image left OutOfMemory why = tt
  not_reopened_told image left (Unread file cause) why = absurd why
  not_reopened_told image left (Unopened fault) why = why
  not_reopened_told image left (Journal fault) why = why
  not_reopened_told image left NoJournal why = why
  not_reopened_told image left (NotAccepted number) why = absurd why
  not_reopened_told image left CopyExists why = absurd why
  not_reopened_told image left CopyUnwritten why = absurd why

  pub entries_not_told : (image : Image) (object boards : List ℕ) (opening : SessionState) (journal : List Entry) (budget : ℕ)
      (publications : List (List Entry)) (left : Option (Leftover D g)) (fault : KeptSessionFault)
      → IsSessionOf object boards opening journal budget → HeldRows image object boards (rows_of publications)
      → WhyNotTold opening (entries_of publications) fault → WhyJournalNotTold image left fault
  entries_not_told image object boards opening journal budget publications left OutOfMemory session held why = tt
  entries_not_told image object boards opening journal budget publications left (Unread file cause) session held why = absurd why
  entries_not_told image object boards opening journal budget publications left (Unopened fault) session held why = absurd why
  entries_not_told image object boards opening journal budget publications left (Journal fault) session held why = absurd why
  entries_not_told image object boards opening journal budget publications left NoJournal session held why = absurd why
  entries_not_told image object boards opening journal budget publications left (NotAccepted number) session held why = record {
    object = object;
    boards = boards;
    opening = opening;
    budget = budget;
    publications = publications;
    session = subst (λ (e : List Entry). IsSessionOf object boards opening e budget) session.empty session;
    held = held;
    not = why;
  }
  entries_not_told image object boards opening journal budget publications left CopyExists session held why = absurd why
  entries_not_told image object boards opening journal budget publications left CopyUnwritten session held why = absurd why

-- ---- journals that aren't copied

-- the files weren't opened, or aren't left
pub failed_not_copied : {D : Type 0} (g : Ghosts D) (image : Image) (fault : KeptSessionFault) → IsFailedCopy fault
    → WhyNotCopied {D = D} {g = g} image None fault
failed_not_copied g image OutOfMemory why = tt
failed_not_copied g image (Unread file cause) why = absurd why
failed_not_copied g image (Unopened fault) why = absurd why
failed_not_copied g image (Journal fault) why = why
failed_not_copied g image NoJournal why = absurd why
failed_not_copied g image (NotAccepted number) why = absurd why
failed_not_copied g image CopyExists why = tt
failed_not_copied g image CopyUnwritten why = tt

module _ {D : Type 0} {g : Ghosts D} where
  pub kept_not_copied : (image : Image) (left : Option (Leftover D g)) (fault : JournalFault) → WhyFilesNotKept image left fault
      → WhyNotCopied image left (Journal fault)
  kept_not_copied image None fault why = unopened_fails fault why
  kept_not_copied image (Some files) fault why = why

-- ---- journals that are accepted

module _ {D : Type 0} {g : Ghosts D} where
  not_taken : (image : Image) (session : List Row) (held : List RowBytes) (left : Option (Leftover D g)) (fault : JournalFault)
      → HoldsRows image session held → WhyFilesNotTaken image session left fault
      → MatchOption left (is_file_unopened fault ≡ true) (λ files. IsOutage files fault)
  not_taken image session held None fault holds why = why
  not_taken image session held (Some files) fault holds why = not_refused image session held files fault holds why

  not_kept : (image : Image) (object boards : List ℕ) (held : List RowBytes) (left : Option (Leftover D g)) (fault : JournalFault)
      → IsUtf8 object → HoldsRows image (session_row object boards ∷ []) held → WhyFilesNotKept image left fault
      → MatchOption left (is_file_unopened fault ≡ true) (λ files. IsOutage files fault)
  not_kept image object boards held None fault text holds why = why
  not_kept image object boards held (Some files) fault text holds why =
      not_refused_alone image object boards held files fault text holds why

  pub start_fails : (image : Image) (object boards : List ℕ) (opening : SessionState) (published : List (List Entry))
      (left : Option (Leftover D g)) (fault : KeptSessionFault)
      → AreKeepable published → IsAccepted opening (entries_of published)
      → HoldsRows image (session_row object boards ∷ []) (rows_of published) → WhyNotTakenUp image object boards left fault
      → WhyNoSession object boards fault ⊎ IsStartFailure left fault
  start_fails image object boards opening published left OutOfMemory keepable accepted holds why = inr tt
  start_fails image object boards opening published left (Unread file cause) keepable accepted holds why = absurd why
  start_fails image object boards opening published left (Unopened fault) keepable accepted holds why = inl why
  start_fails image object boards opening published left (Journal fault) keepable accepted holds why =
      let session = session_row object boards ∷ [] in
      elim why [
        | inl taken ↦ inr (inl (not_taken image session (rows_of published) left fault holds taken))
        | inr unread ↦ inr (inr (accepted_want opening unread.rows published fault keepable accepted
            (reads_same image session session (rows_of published) (map texts_of unread.rows) holds unread.found) unread.unread))
      ]
  start_fails image object boards opening published left NoJournal keepable accepted holds why = absurd why
  start_fails image object boards opening published left (NotAccepted number) keepable accepted holds why = absurd why
  start_fails image object boards opening published left CopyExists keepable accepted holds why = absurd why
  start_fails image object boards opening published left CopyUnwritten keepable accepted holds why = absurd why

  pub start_fails_alone : (image : Image) (object boards : List ℕ) (opening : SessionState) (published : List (List Entry))
      (left : Option (Leftover D g)) (fault : KeptSessionFault)
      → IsUtf8 object → AreKeepable published → IsAccepted opening (entries_of published)
      → HoldsRows image (session_row object boards ∷ []) (rows_of published) → WhyNotReopened image left fault
      → WhyNoSession object boards fault ⊎ (IsStartFailure left fault ⊎ ((fault ≡ NoJournal) × (left ≡ None)))
  start_fails_alone image object boards opening published left OutOfMemory text keepable accepted holds why = inr (inl tt)
  start_fails_alone image object boards opening published left (Unread file cause) text keepable accepted holds why = absurd why
  start_fails_alone image object boards opening published left (Unopened fault) text keepable accepted holds why =
      let same = same_session image object boards why.object why.boards (rows_of published) why.rows holds why.held in
      inl (subst (λ o. WhyNoSession o boards (Unopened fault)) same.0
      (subst (λ b. WhyNoSession why.object b (Unopened fault)) same.1 why.none))
  start_fails_alone image object boards opening published left (Journal fault) text keepable accepted holds why =
      let session = session_row object boards ∷ [] in
      elim why [
        | inl kept ↦ inr (inl (inl (not_kept image object boards (rows_of published) left fault text holds kept)))
        | inr unread ↦ inr (inl (inr (accepted_want opening unread.rows published fault keepable accepted
            (reads_same image session (session_row unread.object unread.boards ∷ []) (rows_of published)
            (map texts_of unread.rows) holds (λ db held. inr (unread.held db held))) unread.unread)))
      ]
  start_fails_alone image object boards opening published left NoJournal text keepable accepted holds why =
      inr (inr (refl, why))
  start_fails_alone image object boards opening published left (NotAccepted number) text keepable accepted holds why = absurd why
  start_fails_alone image object boards opening published left CopyExists text keepable accepted holds why = absurd why
  start_fails_alone image object boards opening published left CopyUnwritten text keepable accepted holds why = absurd why
