use Rattle.pbn_records.proofs.FaultLemmas.{deal_fault_read, some_conflict, no_conflicts}
use Rattle.pbn_records.proofs.reader.deal_fault.Goals as goal

pub returns-in-Err-clause-some : goal.returns-in-Err-clause-some
returns-in-Err-clause-some c = λ first knows. deal_fault_read c.args.tag.now.value.now first c.in-Err.fault
    c.in-Err.ensures.fault

pub returns-in-Ok-clause-some : goal.returns-in-Ok-clause-some
returns-in-Ok-clause-some c =
    some_conflict c.args.tag.now.value.now c.in-Ok.deal c.args.known.now c.conflict.result c.in-Ok.ensures.deal
    c.conflict.ensures.some

pub returns-in-Ok-clause-none : goal.returns-in-Ok-clause-none
returns-in-Ok-clause-none c =
    no_conflicts c.args.tag.now.value.now c.in-Ok.deal c.args.known.now c.conflict.result c.in-Ok.ensures.deal
    c.in-Ok.ensures.shown
    c.conflict.ensures.none
