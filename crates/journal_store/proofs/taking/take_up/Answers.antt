use Rattle.sqlite.specs.Held.{state}
use Rattle.journal_store.proofs.KeptLemmas.{leaves_first}
use Rattle.journal_store.proofs.RestartLemmas.{again}
use Rattle.journal_store.proofs.taking.take_up.Goals as goal

pub returns-then-is_blank_schema-clause-first : goal.returns-then-is_blank_schema-clause-first
returns-then-is_blank_schema-clause-first g c clean idle none =
    leaves_first (state g.S.Store c.args.conn.now) (state g.S.Store c.begin.new.conn) _ idle
    (λ is_open db may. g.met.S.Store.settled c.args.conn.now.store db is_open may) none (c.begin.ensures.leaves clean idle)

pub returns-clause-again : goal.returns-clause-again
returns-clause-again g c rows clean idle keeps =
    again _ rows (state g.S.Store c.args.conn.now) (state g.S.Store c.go_on.new.conn) c.go_on.result idle keeps
    (c.go_on.ensures.takes clean idle) (c.go_on.ensures.refuses clean idle)
