use Rattle.std.proofs.Common.{◌≡◌, true, [], ◌∷◌, map, sym, subst}
use Rattle.sqlite.specs.State.{HasCleanDisk}
use Rattle.sqlite.specs.Files.{file_state}
use Rattle.sqlite.specs.WalFiles.{image_at}
use Rattle.journal_store.specs.Kept.{texts_of, row_of_session}
use Rattle.journal_store.specs.Faults.{is_failure}
use Rattle.journal_store.specs.Restart.{IsKeptAt}
use Rattle.row_journal.specs.Leaving.{FoundRows}
use Rattle.row_journal.proofs.FaultLemmas.{both_ways, kept_why, unopened_same}
use Rattle.row_journal.proofs.opening.open_kept_journal.Goals as goal

pub new-requires-clause-rests : goal.new-requires-clause-rests
new-requires-clause-rests g c = λ clean. (row_of_session c.in-Ok.session ∷ [], (c.in-Ok.ensures.opens clean).rests)

pub returns-in-Ok-clause-opens : goal.returns-in-Ok-clause-opens
returns-in-Ok-clause-opens g c =
    subst (λ (f : FoundRows _). HasCleanDisk (file_state f.conn)
    → IsKeptAt (image_at g.S.Start) (row_of_session c.in-Ok.session ∷ []) (map texts_of f.rows) (file_state f.conn))
    (sym c.new.ensures) c.in-Ok.ensures.opens

pub returns-in-Err-clause-refuses : goal.returns-in-Err-clause-refuses
returns-in-Err-clause-refuses g c =
    rw c.fault_of_file.ensures (both_ways (is_failure c.in-Err.fault ≡ true) c.in-Err.left (unopened_same c.in-Err.fault)
    (λ left why cause clean. kept_why _ left c.in-Err.fault (why clean) (cause clean)) c.in-Err.ensures.refuses c.in-Err.ensures.cause)
