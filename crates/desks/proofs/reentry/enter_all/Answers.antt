use Rattle.std.proofs.Common.{◌+◌, List, [], ◌∷◌, take, drop, arith, subst}
use Rattle.session_commands.specs.declared.entry.Entry.{Entry}
use Rattle.desks.specs.Reentry.{IsReentryFault}
use Rattle.desks.proofs.ReentryLemmas.{fault_inside, split_at}
use Rattle.desks.proofs.reentry.enter_all.Goals as goal

pub returns-in-Err-clause-fault : goal.returns-in-Err-clause-fault
returns-in-Err-clause-fault g c =
    let entries = c.args.entries.now in
    let i = c.loop-entry.entry-index in
    let entry = c.entry-item.result in (
      omega (arith, c.loop-entry-test.true),
      fault_inside c.in-Err.fault g.N.Server.opening c.args.book.now.journal (take i entries) entry
          (drop (i + 1) entries) entries c.enter.new.book.journal
          (split_at entries i entry c.loop-entry-test.true c.entry-item.is)
          (subst (λ (l : List Entry). IsReentryFault c.in-Err.fault g.N.Server.opening l (entry ∷ [])
          c.enter.new.book.journal) c.loop-entry.invariant.joined c.in-Err.ensures.fault),
    )
