use Rattle.std.proofs.Common.{◌≡◌, map, take}
use Rattle.sqlite.specs.Held.{state}
use Rattle.journal_store.specs.Kept.{texts_of, StaysInside, AddsRows}
use Rattle.journal_store.proofs.append_rows.insert_all.Given as goal

abbrev pub invariant-rows : goal.invariant-rows
invariant-rows g l =
    let old = state g.S.Store l.fn.tx.conn.now in
    let now = state g.S.Store l.tx.conn.now in
    (l.tx.conn.ghost_name ≡ l.fn.tx.conn.ghost_name) × StaysInside old now
    × AddsRows old now l.first (map texts_of (take l.place l.rows))
