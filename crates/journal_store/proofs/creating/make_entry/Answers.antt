use Rattle.sqlite.specs.Held.{state}
use Rattle.journal_store.proofs.CreateLemmas.{entries}
use Rattle.journal_store.proofs.creating.make_entry.Goals as goal

pub returns-clause-ok : goal.returns-clause-ok
returns-clause-ok g c = entries (state g.S.Store c.args.tx.now.conn.now) (state g.S.Store c.execute.new.self.conn.now)
    c.execute.result c.execute.ensures.runs
