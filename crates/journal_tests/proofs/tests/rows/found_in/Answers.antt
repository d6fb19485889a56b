use Rattle.std.proofs.Common.{[], ◌∷◌, codes}
use Rattle.sqlite.specs.State.{HasCleanDisk}
use Rattle.sqlite.specs.Files.{file_state}
use Rattle.journal_store.specs.Tables.{session_row}
use Rattle.journal_store.proofs.RestartLemmas.{idle_if_opened}
use Rattle.journal_tests.proofs.tests.rows.found_in.Goals as goal

pub new-requires-in-Ok-take_up-clause-rests : goal.new-requires-in-Ok-take_up-clause-rests
new-requires-in-Ok-take_up-clause-rests g c = λ clean.
    let early : HasCleanDisk (file_state c.in-Ok.conn) = c.take_up.ensures.clean clean in
    let idle = idle_if_opened (file_state c.in-Ok.conn) (c.in-Ok.ensures.opened early) in
    (session_row (codes "{}") (codes "boards") ∷ [], (c.in-Ok-take_up.ensures.takes clean idle).rests)
