use Rattle.sqlite.specs.Held.{state}
use Rattle.journal_store.proofs.TextLemmas.{adds_inside}
use Rattle.journal_store.proofs.append_rows.insert.Goals as goal

pub returns-clause-ok : goal.returns-clause-ok
returns-clause-ok g c =
    adds_inside (state g.S.Store c.args.tx.now.conn.now) (state g.S.Store c.execute.new.self.conn.now) c.args.number _
    c.execute.result
    (λ clean inside. rw (
      c.params-to_sql.ensures,
      c.params-to_sql-2.ensures,
      c.params-to_sql-3.ensures,
      c.params-to_sql-4.ensures,
    ) at (c.execute.ensures.runs clean inside))
