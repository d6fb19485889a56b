use Rattle.session_object.specs.declared.session_fault.SessionFault.TheVariants.{OutOfMemory}
use Rattle.session_check.proofs.CheckLemmas.{unread_none, unread_where, unread_whom}
use Rattle.session_check.proofs.checking.refused_object.Goals as goal

pub returns-in-Ok-clause-none : goal.returns-in-Ok-clause-none
returns-in-Ok-clause-none c =
    unread_none _ c.args.text.now c.args.fault c.unread.result.fault c.unread.ensures.fault c.requires.refused c.requires.memory

pub returns-in-Ok-clause-line : goal.returns-in-Ok-clause-line
returns-in-Ok-clause-line c =
    unread_where _ c.args.text.now c.args.fault c.unread.result.fault c.unread.ensures.fault c.unread.result.line
    (rw c.unread.ensures.line c.in-Ok.ensures.line)

pub returns-in-Ok-clause-users : goal.returns-in-Ok-clause-users
returns-in-Ok-clause-users c =
    unread_whom _ c.args.text.now c.args.fault c.unread.result.fault c.unread.ensures.fault c.unread.result.user
    c.unread.result.other c.unread.ensures.user c.unread.ensures.other

pub returns-in-Err-clause-none : goal.returns-in-Err-clause-none
returns-in-Err-clause-none c =
    unread_none _ c.args.text.now OutOfMemory c.out_of_memory.result.fault c.out_of_memory.ensures.fault tt
    (λ _. c.in-Err.ensures.memory)

pub returns-in-Err-clause-line : goal.returns-in-Err-clause-line
returns-in-Err-clause-line c =
    unread_where _ c.args.text.now OutOfMemory c.out_of_memory.result.fault c.out_of_memory.ensures.fault
    c.out_of_memory.result.line c.out_of_memory.ensures.line

pub returns-in-Err-clause-users : goal.returns-in-Err-clause-users
returns-in-Err-clause-users c =
    unread_whom _ c.args.text.now OutOfMemory c.out_of_memory.result.fault c.out_of_memory.ensures.fault
    c.out_of_memory.result.user c.out_of_memory.result.other c.out_of_memory.ensures.user c.out_of_memory.ensures.other
