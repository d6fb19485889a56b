use Rattle.std.proofs.Common.{◌≡◌, true, [], ◌∷◌, map, sym, subst}
use Rattle.sqlite.specs.State.{HasCleanDisk}
use Rattle.sqlite.specs.Files.{file_state}
use Rattle.sqlite.specs.WalFiles.{image_at}
use Rattle.journal_store.specs.Tables.{session_row}
use Rattle.journal_store.specs.Kept.{texts_of}
use Rattle.journal_store.specs.Faults.{is_failure}
use Rattle.journal_store.specs.Restart.{IsTakenUp}
use Rattle.row_journal.specs.Leaving.{FoundRows}
use Rattle.row_journal.proofs.FaultLemmas.{both_ways, either_way, failure_same, taken_why, unopened_same}
use Rattle.row_journal.proofs.opening.open_row_journal.Goals as goal

pub new-requires-clause-rests : goal.new-requires-clause-rests
new-requires-clause-rests g c = λ clean. (
  session_row c.args.object.now c.args.boards.now ∷ [],
  (c.in-Ok.ensures.opens clean).rests,
)

pub returns-in-Ok-clause-opens : goal.returns-in-Ok-clause-opens
returns-in-Ok-clause-opens g c =
    subst (λ (f : FoundRows _). HasCleanDisk (file_state f.conn)
    → IsTakenUp (image_at g.S.Start) (session_row c.args.object.now c.args.boards.now ∷ []) (map texts_of f.rows)
    (file_state f.conn))
    (sym c.new.ensures) c.in-Ok.ensures.opens

pub returns-in-Ok-clause-again : goal.returns-in-Ok-clause-again
returns-in-Ok-clause-again g c = λ rows holds.
    subst (λ (f : FoundRows _). HasCleanDisk (file_state f.conn) → map texts_of f.rows ≡ rows) (sym c.new.ensures)
    (c.in-Ok.ensures.again rows holds)

pub returns-in-Err-clause-refuses : goal.returns-in-Err-clause-refuses
returns-in-Err-clause-refuses g c =
    rw c.fault_of_file.ensures (both_ways (is_failure c.in-Err.fault ≡ true) c.in-Err.left (unopened_same c.in-Err.fault)
    (λ left why cause clean. taken_why _ _ left c.in-Err.fault (why clean) (cause clean)) c.in-Err.ensures.refuses c.in-Err.ensures.cause)

pub returns-in-Err-clause-again : goal.returns-in-Err-clause-again
returns-in-Err-clause-again g c = λ rows holds.
    rw c.fault_of_file.ensures (either_way c.in-Err.left (failure_same c.in-Err.fault)
    (λ left is clean. failure_same c.in-Err.fault (is clean)) (c.in-Err.ensures.again rows holds))
