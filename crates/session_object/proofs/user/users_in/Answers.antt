use Rattle.std.proofs.Common.{Some, ◌∙◌, ap, sym, add-one, arith}
use Rattle.std.proofs.lemmas.Result.{err_from_is_err_and}
use Rattle.json_fields.proofs.ListLemmas.{each_kept}
use Rattle.session_object.specs.Session.{new_user_of}
use Rattle.session_object.proofs.ReadingLemmas.{each_fails, each_end}
use Rattle.session_object.proofs.user.users_in.Goals as goal

pub loop-value-preserved : goal.loop-value-preserved
loop-value-preserved c =
    let l = c.loop-value in
    rw (add-one, c.in_ok-push.ensures.items)
    (each_kept (new_user_of c.args.edition) l.users.items c.args.list.now l.value-index c.value-item.result
    c.in_ok-user.user _ l.invariant (omega (arith, c.loop-value-test.true)) c.value-item.is c.in_ok-user.ensures)

pub returns-in_err-user-clause-users : goal.returns-in_err-user-clause-users
returns-in_err-user-clause-users c =
    let p = err_from_is_err_and c.from_residual.result c.from_residual.ensures.1 in
    rw p.1 tt

pub returns-in_err-user-clause-fault : goal.returns-in_err-user-clause-fault
returns-in_err-user-clause-fault c =
    let l = c.loop-value in
    let p = err_from_is_err_and c.from_residual.result c.from_residual.ensures.1 in
    rw (p.1, p.2)
    (each_fails (new_user_of c.args.edition) l.users.items c.args.list.now l.value-index c.value-item.result
    c.in_err-user.field-0.0 l.invariant (omega (arith, c.loop-value-test.true)) c.value-item.is c.in_err-user.ensures)

pub returns-in_err-push-clause-users : goal.returns-in_err-push-clause-users
returns-in_err-push-clause-users c =
    let p = err_from_is_err_and c.from_residual-in_err-push.result c.from_residual-in_err-push.ensures.1 in
    rw p.1 tt

pub returns-in_err-push-clause-fault : goal.returns-in_err-push-clause-fault
returns-in_err-push-clause-fault c =
    let p = err_from_is_err_and c.from_residual-in_err-push.result c.from_residual-in_err-push.ensures.1 in
    rw (p.1, p.2) tt

pub returns-clause-users : goal.returns-clause-users
returns-clause-users c =
    let l = c.loop-value in
    each_end (new_user_of c.args.edition) l.users.items c.args.list.now l.value-index l.invariant
    (omega (arith, c.loop-value-test.false)) ∙ ap Some (sym c.new.ensures)
