use Rattle.std.proofs.Common.{IsTrue, ◌≡◌, map, rules, subst}
use Rattle.sqlite.specs.State.{HasCleanDisk}
use Rattle.sqlite.specs.Held.{state}
use Rattle.sqlite.specs.Tree.{Trees}
use Rattle.journal_store.specs.Kept.{texts_of, AreKept, Rests, Adds, StaysInside, AddsRows}
use Rattle.journal_store.proofs.KeptLemmas.{commits, begun, lets_go, adds_none, with_next}
use Rattle.journal_store.proofs.append_rows.add.Goals as goal

pub returns-clause-adds : goal.returns-clause-adds
returns-clause-adds g c session before clean rests at next =
    let old = state g.S.Store c.args.conn.now in
    let mid = state g.S.Store c.insert_all.new.tx.conn.now in
    let end = c.commit.new.self.0 in
    let last = state g.S.Store end in
    let same : end ≡ c.conn-2-1.given.0 = search rules in
    let late : HasCleanDisk last = search rules in
    let start = c.transaction-tx.ensures.begun in
    let stays : StaysInside (begun old) mid = rw start at c.insert_all.ensures.inside in
    let adds : AddsRows (begun old) mid c.args.first (map texts_of c.args.rows.now) = rw start
    at c.in_ok-insert_all.ensures.ok in
    subst (λ h. Adds session before (map texts_of c.args.rows.now) (state g.S.Store h) c.commit.result) same
    (commits old mid last session before _ c.args.first c.commit.result late
    (λ is_open db may. g.met.S.Store.settled end.store db is_open may) c.commit.ensures.ended rests at stays adds
    (search rules) (c.commit.ensures.err late) c.commit.ensures.survives
    (with_next before c.args.rows.now c.args.first rests.committed.kept.are_entries at c.requires.fits next))

pub returns-in_err-insert_all-clause-adds : goal.returns-in_err-insert_all-clause-adds
returns-in_err-insert_all-clause-adds g c session before clean rests at next =
    let old = state g.S.Store c.args.conn.now in
    let mid = state g.S.Store c.insert_all.new.tx.conn.now in
    let end = c.drop-tx.new.self.0 in
    let last = state g.S.Store end in
    let same : end ≡ c.conn-1.given.0 = search rules in
    let late : HasCleanDisk last = search rules in
    let start = c.transaction-tx.ensures.begun in
    let stays : StaysInside (begun old) mid = rw start at c.insert_all.ensures.inside in
    adds_none session before _ _ c.from_residual.result (search rules)
    (subst (λ h. (IsTrue (state g.S.Store h).is_open → Rests session before (state g.S.Store h))
    × ((db : Trees) → (state g.S.Store h).may_leave db → AreKept session before db)) same
    (lets_go old mid last session before late (λ is_open db may. g.met.S.Store.settled end.store db is_open may)
    c.drop-tx.ensures.ended rests stays (c.drop-tx.ensures.undone late) c.drop-tx.ensures.survives))
