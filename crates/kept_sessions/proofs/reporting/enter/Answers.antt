use Rattle.std.proofs.Common.{◌+◌, arith}
use Rattle.kept_sessions.proofs.NotToldLemmas.{fault_here}
use Rattle.kept_sessions.proofs.reporting.enter.Goals as goal

pub returns-in-Ok : goal.returns-in-Ok
returns-in-Ok c = record {
  entered = rw (c.in-Ok.ensures.ok, c.check.ensures.same) at c.commit.ensures.journal;
  fault = tt;
  opening = rw c.check.ensures.same at c.commit.ensures.opening;
}

pub returns-in-Err-clause-fault : goal.returns-in-Err-clause-fault
returns-in-Err-clause-fault c =
    fault_here c.fault_of.result c.in-Err.cause c.args.book.now.opening c.args.book.now.journal c.args.entry.now
    (c.version-number.result + 1) c.fault_of.ensures (omega (arith, c.version-number.ensures.version))
    c.version-number.ensures.accepted c.in-Err.ensures.err
