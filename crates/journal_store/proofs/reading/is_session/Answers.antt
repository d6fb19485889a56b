use Rattle.std.proofs.Common.{IsPermutation, map, rules}
use Rattle.sqlite.specs.Held.{state}
use Rattle.journal_store.specs.Tables.{shown_session}
use Rattle.journal_store.proofs.ReadingLemmas.{one_row}
use Rattle.journal_store.proofs.reading.is_session.Goals as goal

pub returns-clause-reads : goal.returns-clause-reads
returns-clause-reads g c clean has =
    let read = c.in_ok-shown.ensures.reads clean has in
    let same : IsPermutation (map shown_session ((state g.S.Store c.args.conn.now).now.trees 0)) c.as_slice.result.now =
    search rules in
    one_row _ c.as_slice.result.now _ c.is_only_row.result same c.is_only_row.ensures
