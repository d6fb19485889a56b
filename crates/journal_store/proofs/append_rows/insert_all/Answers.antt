use Rattle.std.proofs.Common.{refl, rules, subst, map, add-one}
use Rattle.std.proofs.lemmas.List.{take_all}
use Rattle.journal_store.specs.Kept.{texts_of, AddsRows}
use Rattle.sqlite.specs.Held.{state}
use Rattle.journal_store.proofs.KeptLemmas.{adds_nothing, added_next, stays_on, stays_put}
use Rattle.journal_store.proofs.append_rows.insert_all.Goals as goal

pub rows-init : goal.rows-init
rows-init g c = (refl, stays_put _, adds_nothing _ _)

pub rows-preserved : goal.rows-preserved
rows-preserved g c =
    let old = state g.S.Store c.args.tx.now.conn.now in
    let mid = state g.S.Store c.rows.tx.conn.now in
    let new = state g.S.Store c.insert.new.tx.conn.now in (
      search rules,
      stays_on old mid new c.rows.invariant.2.inside c.rows.invariant.1 c.insert.ensures.inside,
      rw add-one (added_next texts_of old mid new c.args.first _ c.rows.place c.args.rows.now c.index-rows-place.result
          (search rules) (search rules) (search rules) c.insert.ensures.inside c.rows.invariant.2
          c.in_ok-insert.ensures.ok),
    )

pub returns-in_err-insert-clause-same_reference : goal.returns-in_err-insert-clause-same_reference
returns-in_err-insert-clause-same_reference g c = search rules

pub returns-in_err-insert-clause-inside : goal.returns-in_err-insert-clause-inside
returns-in_err-insert-clause-inside g c =
    stays_on (state g.S.Store c.args.tx.now.conn.now) (state g.S.Store c.rows.tx.conn.now) _ c.rows.invariant.2.inside
    c.rows.invariant.1 c.insert.ensures.inside

pub returns-clause-same_reference : goal.returns-clause-same_reference
returns-clause-same_reference g c = c.rows.invariant.0

pub returns-clause-ok : goal.returns-clause-ok
returns-clause-ok g c =
    subst (λ l. AddsRows (state g.S.Store c.args.tx.now.conn.now) (state g.S.Store c.rows.tx.conn.now) c.args.first
    (map texts_of l)) (take_all c.rows.place c.args.rows.now (search rules)) c.rows.invariant.2

pub returns-clause-inside : goal.returns-clause-inside
returns-clause-inside g c = c.rows.invariant.1
