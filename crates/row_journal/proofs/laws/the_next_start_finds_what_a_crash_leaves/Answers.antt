use Rattle.std.proofs.Common.{◌≡◌, sym, subst}
use Rattle.std.proofs.Math.Logic.{∥∥₁_map}
use Rattle.sqlite.specs.Held.{state}
use Rattle.journal_store.proofs.RestartLemmas.{reads_same}
use Rattle.kept_entries.specs.KeptRows.{rows_of}
use Rattle.kept_entries.proofs.RowLemmas.{rows_tell}
use Rattle.row_journal.specs.Leaving.{LeavesPublications}
use Rattle.row_journal.proofs.laws.the_next_start_finds_what_a_crash_leaves.Goals as goal

pub returns : goal.returns
returns g c = λ left again found holds found_rows keepable. ∥∥₁_map holds (λ it.
    let rows : rows_of found ≡ rows_of it.2 = reads_same left it.1 again (rows_of it.2) (rows_of found) ∣
    (it.0, it.3, it.4.rows) ∣₁ found_rows in
    subst (LeavesPublications (state g.S.Store c.args.journal.now.conn)) (sym
    (rows_tell found it.2 keepable it.4.keepable rows)) it.5)
