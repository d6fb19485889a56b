use Rattle.std.proofs.Common.{◌+◌, ◌++◌, ◌∷◌, [], take, drop}
use Rattle.kept_sessions.proofs.NotToldLemmas.{not_told_inside, split_behind}
use Rattle.kept_sessions.proofs.reporting.enter_all.Goals as goal

pub returns-in-Err-clause-fault : goal.returns-in-Err-clause-fault
returns-in-Err-clause-fault c =
    let before = c.args.book.now.journal in
    let entries = c.args.entries.now in
    let i = c.loop-entry.entry-index in
    let entry = c.entry-item.result in
    not_told_inside c.args.book.now.opening ((before ++ take i entries) ++ entry ∷ []) (drop (i + 1) entries)
    (before ++ entries) c.in-Err.fault
    (split_behind before entries i entry c.loop-entry-test.true c.entry-item.is)
    (rw (c.loop-entry.invariant.opening, c.loop-entry.invariant.entered) at c.in-Err.ensures.fault)
