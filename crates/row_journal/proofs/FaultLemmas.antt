-- What a fault says of the file, or of its rows, under its name here.
use Rattle.std.proofs.Common.{◌≡◌, ◌≢◌, ◌⊎◌, inl, inr, ℕ, suc, IsUtf8, Bool, true, false, Option, Some, None, Result, Ok, Err, IfErr, MatchOption, MatchResult, List, [], ◌∷◌, map, refl, sym, ap, subst, ◌∙◌, arith}
use Rattle.std.proofs.lemmas.List.{length-map}
use Rattle.sqlite.specs.Order.{Row}
use Rattle.sqlite.specs.Recovery.{Image}
use Rattle.sqlite.specs.declared.file.Leftover.{Leftover}
use Rattle.sqlite_disk.specs.declared.Disk.{Ghosts}
use Rattle.session_commands.specs.declared.entry.Entry.{Entry}
use Rattle.session_state.specs.SessionState.{SessionState}
use Rattle.session_book.specs.Journal.{IsAccepted}
use Rattle.history.specs.Prefixes.{entries_of}
use Rattle.journal_store.specs.declared.take_fault.TakeFault.{TakeFault}
use Rattle.journal_store.specs.declared.take_fault.TakeFault.TheVariants as file
use Rattle.journal_store.specs.declared.row_text.RowText.{RowText}
use Rattle.journal_store.specs.Tables.{RowBytes, session_row}
use Rattle.journal_store.specs.Kept.{texts_of, AreInOrder, AreEntries, most_entry_rows}
use Rattle.journal_store.specs.Faults.{LeavesFor, is_failure, is_unopened}
use Rattle.journal_store.specs.Made.{HasNone}
use Rattle.journal_store.specs.Taken.{RefusesJournal}
use Rattle.journal_store.specs.Restart.{HoldsRows, IsNotRead, IsRefusedAt, IsRefusedJournal, IsUnmadeAt}
use Rattle.journal_store.proofs.RestartLemmas.{rows_hold_some, rows_hold_tables, rows_not_refused, rows_numbered, rows_read}
use Rattle.kept_entries.specs.KeptRows.{AreCounted, AreKeepable, rows_of}
use Rattle.kept_entries.specs.RowTexts.{IsReadingWant, WhyNotRead}
use Rattle.kept_entries.specs.declared.read_fault.RowFault.{RowFault}
use Rattle.kept_entries.specs.declared.read_fault.RowFault.TheVariants as rows
use Rattle.kept_entries.proofs.AcceptedLemmas.{accepted_read}
use Rattle.row_journal.specs.declared.journal_fault.JournalFault.{JournalFault}
use Rattle.row_journal.specs.declared.journal_fault.JournalFault.TheVariants.{OutOfMemory, Busy, Damaged, Unread, NotAJournal, OtherSession, Misnumbered, Unreadable, Unsolved}
use Rattle.row_journal.specs.Faults.{file_fault, rows_fault, IsOutage, IsOpeningWant, WhyNotTaken, WhyNotKept, WhyRowsNotRead, is_file_failure, is_file_unopened}

pub failure_same : (fault : TakeFault) → is_failure fault ≡ true → is_file_failure (file_fault fault) ≡ true
failure_same file.Busy is = refl
failure_same file.Damaged is = refl
failure_same file.Unread is = refl
failure_same file.OutOfMemory is = refl
failure_same file.NotAJournal is = absurd cc
failure_same file.OtherSession is = absurd cc
failure_same file.Misnumbered is = absurd cc

no_failure : {A : Type 0} → (false ≡ true) ⊎ A → A
no_failure (inl is) = absurd cc
no_failure (inr it) = it

pub unopened_same : (fault : TakeFault) → is_unopened fault ≡ true → is_file_unopened (file_fault fault) ≡ true
unopened_same file.Busy is = refl
unopened_same file.Damaged is = absurd cc
unopened_same file.Unread is = refl
unopened_same file.OutOfMemory is = refl
unopened_same file.NotAJournal is = absurd cc
unopened_same file.OtherSession is = absurd cc
unopened_same file.Misnumbered is = absurd cc

-- there was no table
none_there : (image : Image) (fault : TakeFault) → IsUnmadeAt image fault → IsRefusedAt image HasNone
none_there image fault unmade = record {
  schema = unmade.schema;
  db = unmade.db;
  found = unmade.found;
  sound = unmade.sound;
  cause = unmade.cause.1;
}

module _ {D : Type 0} {g : Ghosts D} where
  pub taken_why : (image : Image) (session : List Row) (left : Leftover D g) (fault : TakeFault)
      → IsRefusedJournal image session fault → LeavesFor image left fault ⊎ IsUnmadeAt image fault
      → WhyNotTaken image session left (file_fault fault)
  taken_why image session left file.Busy why (inl none) = none
  taken_why image session left file.Busy why (inr unmade) = absurd (let same = unmade.cause.0 in cc)
  taken_why image session left file.Damaged why (inl cause) = cause
  taken_why image session left file.Damaged why (inr unmade) = absurd (let same = unmade.cause.0 in cc)
  taken_why image session left file.Unread why (inl (inl failed)) = inl failed
  taken_why image session left file.Unread why (inl (inr full)) = inr (inl full)
  taken_why image session left file.Unread why (inr unmade) = inr (inr (none_there image file.Unread unmade))
  taken_why image session left file.OutOfMemory why cause = tt
  taken_why image session left file.NotAJournal why cause = no_failure why
  taken_why image session left file.OtherSession why cause = no_failure why
  taken_why image session left file.Misnumbered why cause = no_failure why

  pub kept_why : (image : Image) (left : Leftover D g) (fault : TakeFault) → IsNotRead image fault
      → LeavesFor image left fault → WhyNotKept image left (file_fault fault)
  kept_why image left file.Busy why cause = cause
  kept_why image left file.Damaged why cause = cause
  kept_why image left file.Unread why cause = cause
  kept_why image left file.OutOfMemory why cause = tt
  kept_why image left file.NotAJournal why cause = no_failure why
  kept_why image left file.OtherSession why cause = (no_failure why).cause
  kept_why image left file.Misnumbered why cause = no_failure why

pub rows_why : (found : List RowText) (fault : RowFault) → WhyNotRead found fault
    → WhyRowsNotRead found (rows_fault fault)
rows_why found rows.OutOfMemory why = tt
rows_why found rows.Misnumbered why = why
rows_why found (rows.Unreadable number) why = why
rows_why found (rows.Unsolved number) why = why

pub rows_want : (fault : RowFault) → IsReadingWant fault → IsOpeningWant (rows_fault fault)
rows_want rows.OutOfMemory want = tt
rows_want rows.Misnumbered want = want
rows_want (rows.Unreadable number) want = want
rows_want (rows.Unsolved number) want = tt

counted_in_order : (last : ℕ) (texts : List RowBytes) → AreInOrder last texts → AreCounted last texts
counted_in_order last [] order = tt
counted_in_order last (it ∷ more) order =
    (order.0.counted, order.0.not_before, order.0.no_gap, counted_in_order it.publication more order.1)

-- rows that a journal keeps aren't misnumbered
pub never_misnumbered : (found : List RowText) → AreEntries (map texts_of found) → WhyNotRead found rows.Misnumbered → ⊥
never_misnumbered found are why = elim why [
  | inl many ↦ omega (arith, many, are.few, length-map found texts_of)
  | inr uncounted ↦ uncounted (counted_in_order 0 (map texts_of found) are.in_order)
]

pub entries_numbered : (found : List RowText) (fault : RowFault) → AreEntries (map texts_of found)
    → WhyNotRead found fault → rows_fault fault ≢ Misnumbered
entries_numbered found rows.OutOfMemory are why = λ same. cc
entries_numbered found rows.Misnumbered are why = λ same. never_misnumbered found are why
entries_numbered found (rows.Unreadable number) are why = λ same. cc
entries_numbered found (rows.Unsolved number) are why = λ same. cc

-- ---- what holds a journal's rows

taken_again : (image : Image) (session : List Row) (held : List RowBytes) (fault : TakeFault) → is_failure fault ≡ false
    → HoldsRows image session held → ¬ IsRefusedAt image (λ db. RefusesJournal session db fault)
taken_again image session held fault other holds why =
    let is = rows_not_refused image session held fault holds (inr why) in let both = sym is ∙ other in cc

module _ {D : Type 0} {g : Ghosts D} where
  pub not_refused : (image : Image) (session : List Row) (held : List RowBytes) (left : Leftover D g) (fault : JournalFault)
      → HoldsRows image session held → WhyNotTaken image session left fault → IsOutage left fault
  not_refused image session held left OutOfMemory holds why = inl refl
  not_refused image session held left Busy holds why = absurd why
  not_refused image session held left Damaged holds (inl failed) = inr (inl failed)
  not_refused image session held left Damaged holds (inr none) = absurd (rows_hold_some image session held holds none)
  not_refused image session held left Unread holds (inl failed) = inr (inl failed)
  not_refused image session held left Unread holds (inr (inl full)) = inr (inr full)
  not_refused image session held left Unread holds (inr (inr none)) = absurd (rows_hold_tables image session held holds none)
  not_refused image session held left NotAJournal holds why =
      absurd (taken_again image session held file.NotAJournal refl holds why)
  not_refused image session held left OtherSession holds why =
      absurd (taken_again image session held file.OtherSession refl holds why)
  not_refused image session held left Misnumbered holds why =
      absurd (taken_again image session held file.Misnumbered refl holds why)
  not_refused image session held left (Unreadable number) holds why = absurd why
  not_refused image session held left (Unsolved number) holds why = absurd why

  pub not_refused_alone : (image : Image) (object boards : List ℕ) (held : List RowBytes) (left : Leftover D g)
      (fault : JournalFault) → IsUtf8 object → HoldsRows image (session_row object boards ∷ []) held
      → WhyNotKept image left fault → IsOutage left fault
  not_refused_alone image object boards held left OutOfMemory text holds why = inl refl
  not_refused_alone image object boards held left Busy text holds why = absurd why
  not_refused_alone image object boards held left Damaged text holds (inl failed) = inr (inl failed)
  not_refused_alone image object boards held left Damaged text holds (inr none) =
      absurd (rows_hold_some image (session_row object boards ∷ []) held holds none)
  not_refused_alone image object boards held left Unread text holds why = inr why
  not_refused_alone image object boards held left NotAJournal text holds why =
      absurd (rows_read image object boards held text holds why)
  not_refused_alone image object boards held left OtherSession text holds why = absurd why
  not_refused_alone image object boards held left Misnumbered text holds why =
      absurd (rows_numbered image (session_row object boards ∷ []) held holds why)
  not_refused_alone image object boards held left (Unreadable number) text holds why = absurd why
  not_refused_alone image object boards held left (Unsolved number) text holds why = absurd why

pub accepted_want : (opening : SessionState) (found : List RowText) (published : List (List Entry)) (fault : JournalFault)
    → AreKeepable published → IsAccepted opening (entries_of published) → map texts_of found ≡ rows_of published
    → WhyRowsNotRead found fault → IsOpeningWant fault
accepted_want opening found published OutOfMemory keepable accepted same why = tt
accepted_want opening found published Busy keepable accepted same why = why
accepted_want opening found published Damaged keepable accepted same why = why
accepted_want opening found published Unread keepable accepted same why = why
accepted_want opening found published NotAJournal keepable accepted same why = why
accepted_want opening found published OtherSession keepable accepted same why = why
accepted_want opening found published Misnumbered keepable accepted same why =
    accepted_read opening found published rows.Misnumbered keepable accepted same why
accepted_want opening found published (Unreadable number) keepable accepted same why =
    accepted_read opening found published (rows.Unreadable number) keepable accepted same why
accepted_want opening found published (Unsolved number) keepable accepted same why = tt

-- of what is left of the files, or of nothing
pub either_way : {A : Type 0} {P P' : Type 0} {Q Q' : A → Type 0} (o : Option A) → (P → P') → ((x : A) → Q x → Q' x)
    → MatchOption o P Q → MatchOption o P' Q'
either_way None none some it = none it
either_way (Some x) none some it = some x it

-- the same of two facts
pub both_ways : {A : Type 0} (P : Type 0) {P' P'' : Type 0} {Q Q' Q'' : A → Type 0} (o : Option A) → (P' → P'')
    → ((x : A) → Q x → Q' x → Q'' x) → MatchOption o P Q → MatchOption o P' Q' → MatchOption o P'' Q''
both_ways P None none some it also = none also
both_ways P (Some x) none some it also = some x it also
