use Rattle.sqlite.specs.Held.{state}
use Rattle.journal_store.proofs.CreateLemmas.{fills_session}
use Rattle.journal_store.proofs.creating.insert_session.Goals as goal

pub returns-clause-ok : goal.returns-clause-ok
returns-clause-ok g c =
    fills_session (state g.S.Store c.args.tx.now.conn.now) (state g.S.Store c.execute.new.self.conn.now) _ _
    c.execute.result
    (λ clean inside. rw (c.params-to_sql.ensures, c.params-to_sql-2.ensures) at (c.execute.ensures.runs clean inside))
