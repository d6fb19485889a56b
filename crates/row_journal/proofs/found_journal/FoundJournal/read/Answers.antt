use Rattle.std.proofs.Common.{◌≡◌, ◌≢◌, List, length, map, sym, ap, subst, ◌∙◌, arith}
use Rattle.std.proofs.lemmas.List.{length-map}
use Rattle.sqlite.specs.State.{HasCleanDisk}
use Rattle.sqlite.specs.Held.{state}
use Rattle.session_commands.specs.declared.entry.Entry.{Entry}
use Rattle.journal_store.specs.Kept.{texts_of, Rests}
use Rattle.kept_entries.specs.KeptRows.{lists_in, rows_of}
use Rattle.row_journal.specs.Leaving.{FoundRows, LeavesPublications}
use Rattle.kept_entries.specs.RowTexts.{WhyNotRead}
use Rattle.row_journal.specs.declared.journal_fault.JournalFault.TheVariants.{Misnumbered}
use Rattle.row_journal.specs.Faults.{IsOpeningWant, WhyRowsNotRead}
use Rattle.row_journal.proofs.FaultLemmas.{rows_why, rows_want, entries_numbered}
use Rattle.row_journal.proofs.KeepLemmas.{few_of, leaves_rest}
use Rattle.row_journal.proofs.found_journal.FoundJournal.read.Goals as goal

pub overflow_cast-last : goal.overflow_cast-last
overflow_cast-last g c =
    let published = lists_in c.in-Ok.publications.items in
    let count : length published ≡ length c.in-Ok.publications.items = length-map c.in-Ok.publications.items _ in
    let rows : length c.as_slice.result.now ≡ length (rows_of published) = sym
    (length-map c.as_slice.result.now texts_of) ∙ ap length c.in-Ok.ensures.rows in
    omega (arith, few_of published c.in-Ok.ensures.keepable, count, rows, c.in-Ok.ensures.few, c.len-last.ensures)

pub new-requires-clause-before : goal.new-requires-clause-before
new-requires-clause-before g c =
    let published = lists_in c.in-Ok.publications.items in
    let count : length published ≡ length c.in-Ok.publications.items = length-map c.in-Ok.publications.items _ in
    let rows : length c.as_slice.result.now ≡ length (rows_of published) = sym
    (length-map c.as_slice.result.now texts_of) ∙ ap length c.in-Ok.ensures.rows in
    let same : length c.as_slice.result.now ≡ length c.self.inside.rows.items = ap length c.as_slice.ensures.value in
    omega (arith, few_of published c.in-Ok.ensures.keepable, count, rows, same, c.len.ensures, c.len-last.ensures)

pub new-requires-clause-follows : goal.new-requires-clause-follows
new-requires-clause-follows g c = λ clean.
    let published = lists_in c.in-Ok.publications.items in
    let it = c.self.invariant.1 clean in
    let rows : map texts_of c.self.inside.rows.items ≡ rows_of published = ap (map texts_of)
    (sym c.as_slice.ensures.value) ∙ c.in-Ok.ensures.rows in
    let count : length published ≡ length c.in-Ok.publications.items = length-map c.in-Ok.publications.items _ in
    let counts : length c.self.inside.rows.items ≡ length (rows_of published) = sym
    (length-map c.self.inside.rows.items texts_of) ∙ ap length rows in
    record {
      session = it.0;
      published = published;
      rests = subst (λ l. Rests it.0 l (state g.S.Store c.self.inside.conn)) rows it.1;
      keepable = c.in-Ok.ensures.keepable;
      next_row = omega (arith, c.len.ensures, counts);
      last_is = omega (arith, c.len-last.ensures, count);
    }

pub returns-clause-leaves : goal.returns-clause-leaves
returns-clause-leaves g c =
    let published = lists_in c.in-Ok.publications.items in
    let rows : map texts_of c.self.inside.rows.items ≡ rows_of published = ap (map texts_of)
    (sym c.as_slice.ensures.value) ∙ c.in-Ok.ensures.rows in
    subst (λ (j : FoundRows _). HasCleanDisk (state g.S.Store j.conn) → (found : List (List Entry))
    → LeavesPublications (state g.S.Store j.conn) found → found ≡ published)
    c.self.view_is (λ clean found left.
    let it = c.self.invariant.1 clean in
    leaves_rest it.0 published (state g.S.Store c.self.inside.conn) c.in-Ok.ensures.keepable
    (subst (λ l. Rests it.0 l (state g.S.Store c.self.inside.conn)) rows it.1) found left)

pub returns-in-Err-clause-fault : goal.returns-in-Err-clause-fault
returns-in-Err-clause-fault g c =
    let why : WhyNotRead c.self.inside.rows.items c.in-Err.fault = subst (λ l. WhyNotRead l c.in-Err.fault)
    c.as_slice.ensures.value c.in-Err.ensures.fault in
    subst (λ (j : FoundRows _). WhyRowsNotRead j.rows c.fault_of_rows.result) c.self.view_is
    (subst (WhyRowsNotRead c.self.inside.rows.items) (sym c.fault_of_rows.ensures)
    (rows_why c.self.inside.rows.items c.in-Err.fault why))

pub returns-in-Err-clause-numbered : goal.returns-in-Err-clause-numbered
returns-in-Err-clause-numbered g c =
    let why : WhyNotRead c.self.inside.rows.items c.in-Err.fault = subst (λ l. WhyNotRead l c.in-Err.fault)
    c.as_slice.ensures.value c.in-Err.ensures.fault in
    subst (λ (j : FoundRows _). HasCleanDisk (state g.S.Store j.conn) → c.fault_of_rows.result ≢ Misnumbered)
    c.self.view_is
    (λ clean. subst (λ f. f ≢ Misnumbered) (sym c.fault_of_rows.ensures)
    (entries_numbered c.self.inside.rows.items c.in-Err.fault (c.self.invariant.1 clean).1.now.kept.are_entries why))

pub returns-in-Err-clause-accepted : goal.returns-in-Err-clause-accepted
returns-in-Err-clause-accepted g c = λ opening published keepable accepted same.
    let inside : map texts_of c.self.inside.rows.items ≡ rows_of published = subst
    (λ (j : FoundRows _). map texts_of j.rows ≡ rows_of published) (sym c.self.view_is) same in
    subst IsOpeningWant (sym c.fault_of_rows.ensures) (rows_want c.in-Err.fault
    (c.in-Err.ensures.accepted opening published keepable accepted (ap (map texts_of) c.as_slice.ensures.value ∙ inside)))
