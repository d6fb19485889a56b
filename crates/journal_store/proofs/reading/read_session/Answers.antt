use Rattle.std.proofs.Common.{IsPermutation, map, rules}
use Rattle.sqlite.specs.Held.{state}
use Rattle.journal_store.specs.Tables.{shown_session}
use Rattle.journal_store.proofs.ReadingLemmas.{no_session}
use Rattle.journal_store.proofs.reading.read_session.Goals as goal

pub returns-clause-other : goal.returns-clause-other
returns-clause-other g c clean has =
    let read = c.in_ok-shown.ensures.reads clean has in
    let same : IsPermutation (map shown_session ((state g.S.Store c.args.conn.now).now.trees 0)) c.as_slice.result.now =
    search rules in
    no_session _ c.as_slice.result.now _ same c.in_ok-session_in.ensures.other
