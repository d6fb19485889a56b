use Rattle.sqlite.specs.State.{HasCleanDisk}
use Rattle.sqlite.specs.Held.{state}
use Rattle.journal_store.proofs.KeptLemmas.{asked}
use Rattle.journal_store.proofs.append_rows.append.Goals as goal

pub returns-in-Err-clause-appends : goal.returns-in-Err-clause-appends
returns-in-Err-clause-appends g c session before clean rests at next =
    let a = state g.S.Store c.add.new.conn in
    let b = state g.S.Store c.fault_after.new.conn in
    let early : HasCleanDisk a = c.fault_after.ensures.clean clean in
    asked a b session before _ c.fault_after.result clean (c.in-Err.ensures.adds session before early rests at next)
    c.fault_after.ensures.survives (c.fault_after.ensures.open clean)
