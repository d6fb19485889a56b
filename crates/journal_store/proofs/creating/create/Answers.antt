use Rattle.std.proofs.Common.{◌≡◌, [], ◌∷◌, rules, subst}
use Rattle.sqlite.specs.State.{HasCleanDisk}
use Rattle.sqlite.specs.Held.{state}
use Rattle.journal_store.specs.Tables.{session_row}
use Rattle.journal_store.specs.Kept.{StaysInside}
use Rattle.journal_store.specs.Made.{MakesTables, Creates}
use Rattle.journal_store.proofs.KeptLemmas.{begun}
use Rattle.journal_store.proofs.CreateLemmas.{creates}
use Rattle.journal_store.proofs.creating.create.Goals as goal

pub returns-clause-creates : goal.returns-clause-creates
returns-clause-creates g c clean blank =
    let session = session_row c.args.object.now c.args.boards.now ∷ [] in
    let old = state g.S.Store c.args.conn.now in
    let mid = state g.S.Store c.make.new.tx.conn.now in
    let end = c.commit.new.self.0 in
    let last = state g.S.Store end in
    let same : end ≡ c.conn-2-1.given.0 = search rules in
    let late : HasCleanDisk last = search rules in
    let start = c.transaction-tx.ensures.begun in
    let stays : StaysInside (begun old) mid = rw start at c.make.ensures.inside in
    let makes : MakesTables session (begun old) mid = rw start at c.in_ok-make.ensures.ok in
    subst (λ h. Creates session old (state g.S.Store h) c.commit.result) same
    (creates old mid last session c.commit.result late
    (λ is_open db may. g.met.S.Store.settled end.store db is_open may) c.commit.ensures.ended blank stays makes
    (search rules) (c.commit.ensures.err late) c.commit.ensures.survives)
