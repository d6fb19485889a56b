use Rattle.sqlite.specs.Held.{state}
use Rattle.journal_store.specs.Tables.{shown_entry}
use Rattle.journal_store.proofs.SelectLemmas.{entry_text, asks_entries, all_rows, rows_in_order, only_read, looks}
use Rattle.journal_store.proofs.FailLemmas.{read_excused}
use Rattle.journal_store.proofs.reading.ask_entries.Goals as goal

pub returns-clause-reads : goal.returns-clause-reads
returns-clause-reads g c clean has =
    all_rows entry_text 1 shown_entry asks_entries (state g.S.Store c.args.conn.now)
    (state g.S.Store c.query_all.new.self) c.query_all.result has (c.query_all.ensures.ok clean)

pub returns-clause-ordered : goal.returns-clause-ordered
returns-clause-ordered g c clean has =
    rows_in_order entry_text 1 shown_entry asks_entries (state g.S.Store c.args.conn.now)
    (state g.S.Store c.query_all.new.self) c.query_all.result has (c.query_all.ensures.ok clean)

pub returns-clause-same : goal.returns-clause-same
returns-clause-same g c clean has =
    only_read entry_text 1 shown_entry asks_entries (state g.S.Store c.args.conn.now)
    (state g.S.Store c.query_all.new.self) c.query_all.result has (c.query_all.ensures.ok clean)

pub returns-clause-looks : goal.returns-clause-looks
returns-clause-looks g c = looks entry_text 1 shown_entry asks_entries (state g.S.Store c.args.conn.now)
    (state g.S.Store c.query_all.new.self) c.query_all.ensures.survives

pub returns-clause-fails : goal.returns-clause-fails
returns-clause-fails g c clean may =
    read_excused entry_text 1 shown_entry asks_entries (state g.S.Store c.args.conn.now)
    (state g.S.Store c.query_all.new.self) may c.query_all.result (c.query_all.ensures.err clean)
