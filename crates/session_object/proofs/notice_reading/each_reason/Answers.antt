use Rattle.std.proofs.Common.{Some, ap, add-one, sym, ◌∙◌, arith}
use Rattle.std.proofs.lemmas.Result.{err_from_is_err_and}
use Rattle.json_fields.proofs.ListLemmas.{each_kept}
use Rattle.session_object.specs.declared.session_fault.SessionFault.TheVariants.{BadField}
use Rattle.session_object.specs.NoticeMembers.{reason_said}
use Rattle.session_object.proofs.ReadingLemmas.{each_fails, each_end}
use Rattle.session_object.proofs.notice_reading.each_reason.Goals as goal

pub loop-value-preserved : goal.loop-value-preserved
loop-value-preserved c =
    let l = c.loop-value in
    rw (add-one, c.in_ok-push.ensures.items)
    (each_kept reason_said l.reasons.items c.args.list.now l.value-index c.value-item.result c.in-Some.reason _ l.invariant
    (omega (arith, c.loop-value-test.true)) c.value-item.is (sym c.reason_said.ensures ∙ c.in-Some.is))

pub returns-in_default-clause-fault : goal.returns-in_default-clause-fault
returns-in_default-clause-fault c =
    let l = c.loop-value in
    each_fails reason_said l.reasons.items c.args.list.now l.value-index c.value-item.result BadField l.invariant
    (omega (arith, c.loop-value-test.true)) c.value-item.is (sym c.reason_said.ensures ∙ c.in_default.is)

pub returns-in_err-push-clause-reasons : goal.returns-in_err-push-clause-reasons
returns-in_err-push-clause-reasons c =
    let p = err_from_is_err_and c.from_residual.result c.from_residual.ensures.1 in
    rw p.1 tt

pub returns-in_err-push-clause-fault : goal.returns-in_err-push-clause-fault
returns-in_err-push-clause-fault c =
    let p = err_from_is_err_and c.from_residual.result c.from_residual.ensures.1 in
    rw (p.1, p.2) tt

pub returns-clause-reasons : goal.returns-clause-reasons
returns-clause-reasons c =
    let l = c.loop-value in
    each_end reason_said l.reasons.items c.args.list.now l.value-index l.invariant (omega (arith, c.loop-value-test.false))
    ∙ ap Some (sym c.new.ensures)
