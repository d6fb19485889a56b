use Rattle.std.proofs.Common.{add-one, arith}
use Rattle.json_fields.proofs.ListLemmas.{each_kept}
use Rattle.json_fields.proofs.ReadingLemmas.{is_there}
use Rattle.std.proofs.lemmas.Result.{err_from_is_err_and}
use Rattle.command_object.specs.Command.{command_of}
use Rattle.command_object.proofs.ListLemmas.{each_fails}
use Rattle.command_object.proofs.command.commands_in.Goals as goal

pub loop-value-preserved : goal.loop-value-preserved
loop-value-preserved c =
    let l = c.loop-value in
    rw (add-one, c.in_ok-push.ensures.items)
    (each_kept (command_of c.args.edition) l.commands.items c.args.list.now l.value-index c.value-item.result
    c.in_ok-command.command _ l.invariant (omega (arith, c.loop-value-test.true)) c.value-item.is (is_there _ _ c.in_ok-command.ensures))

pub returns-in_err-command-clause-fault : goal.returns-in_err-command-clause-fault
returns-in_err-command-clause-fault c =
    let l = c.loop-value in
    let p = err_from_is_err_and c.from_residual.result c.from_residual.ensures.1 in
    rw (p.1, p.2)
    (each_fails (command_of c.args.edition) l.commands.items c.args.list.now l.value-index c.value-item.result _ _
    l.invariant (omega (arith, c.loop-value-test.true)) c.value-item.is c.in_err-command.ensures)
