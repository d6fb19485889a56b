use Rattle.std.proofs.Common.{add-one, sym, ◌∙◌, arith}
use Rattle.std.proofs.lemmas.Result.{err_from_is_err_and}
use Rattle.json_fields.proofs.ListLemmas.{each_kept}
use Rattle.session_object.specs.declared.session_fault.SessionFault.TheVariants.{BadField}
use Rattle.session_object.proofs.ReadingLemmas.{each_fails, each_end}
use Rattle.json_fields.specs.User.{role_of}
use Rattle.session_object.proofs.user.roles_in.Goals as goal

pub loop-value-preserved : goal.loop-value-preserved
loop-value-preserved c =
    let l = c.loop-value in
    rw (add-one, c.in_ok-push.ensures.items)
    (each_kept (role_of c.args.edition) l.roles.items c.args.list.now l.value-index c.value-item.result
    c.in-Some.role _ l.invariant
    (omega (arith, c.loop-value-test.true)) c.value-item.is (sym c.read_role.ensures ∙ c.in-Some.is))

pub returns-in_default-clause-fault : goal.returns-in_default-clause-fault
returns-in_default-clause-fault c =
    let l = c.loop-value in
    each_fails (role_of c.args.edition) l.roles.items c.args.list.now l.value-index c.value-item.result BadField
    l.invariant (omega (arith, c.loop-value-test.true)) c.value-item.is (sym c.read_role.ensures ∙ c.in_default.is)

pub returns-in_err-push-clause-roles : goal.returns-in_err-push-clause-roles
returns-in_err-push-clause-roles c =
    let p = err_from_is_err_and c.from_residual.result c.from_residual.ensures.1 in
    rw p.1 tt

pub returns-in_err-push-clause-fault : goal.returns-in_err-push-clause-fault
returns-in_err-push-clause-fault c =
    let p = err_from_is_err_and c.from_residual.result c.from_residual.ensures.1 in
    rw (p.1, p.2) tt

pub returns-clause-roles : goal.returns-clause-roles
returns-clause-roles c =
    let l = c.loop-value in
    each_end (role_of c.args.edition) l.roles.items c.args.list.now l.value-index l.invariant
    (omega (arith, c.loop-value-test.false))
