use Rattle.std.proofs.Common.{None, option_and_then, refl, ◌∙◌, ap, sym, add-one, arith}
use Rattle.std.proofs.lemmas.Result.{err_from_is_err_and}
use Rattle.serde_json.specs.View.{view, items_view}
use Rattle.json_fields.specs.Filter.{formula_of, formulas_of}
use Rattle.json_fields.specs.FilterReading.{not_deeper, none_deeper}
use Rattle.json_fields.proofs.FormulaLemmas.{
  value_kept,
  value_fails,
  all_kept,
  formula_by,
  formula_of_sole,
  formulas_in_array,
  none_at_no_depth,
  atom_named,
  each_fails,
  some_fails,
  contrary_fails,
}
use Rattle.json_fields.proofs.filter_reading.+reading.Goals as goal

pub conditions_of-loop-value-preserved : goal.conditions_of-loop-value-preserved
conditions_of-loop-value-preserved t c =
    let l = c.loop-value in
    rw (add-one, c.in_ok-push.ensures.items)
    (value_kept l.members.items c.args.list.now l.value-index c.value-item.result c.in_ok-condition_of.field-0
    l.invariant (omega (arith, c.loop-value-test.true)) c.value-item.is c.in_ok-condition_of.ensures.ok)

pub condition_called-returns-in_err-conditions_in-in-and-clause-ok :
    goal.condition_called-returns-in_err-conditions_in-in-and-clause-ok
condition_called-returns-in_err-conditions_in-in-and-clause-ok t c =
    let p = err_from_is_err_and c.from_residual.result c.from_residual.ensures.1 in
    rw p.1 tt

pub condition_called-returns-in_err-conditions_in-in-and-clause-fault :
    goal.condition_called-returns-in_err-conditions_in-in-and-clause-fault
condition_called-returns-in_err-conditions_in-in-and-clause-fault t c =
    let p = err_from_is_err_and c.from_residual.result c.from_residual.ensures.1 in
    rw (p.1, p.2)
    (each_fails c.args.depth c.args.name.now (view c.args.value.now) c.in_err-conditions_in-in-and.field-0.0
    (omega arith) c.in-and.is c.in_err-conditions_in-in-and.ensures.fault)

pub condition_called-returns-in_err-conditions_in-in-or-clause-ok :
    goal.condition_called-returns-in_err-conditions_in-in-or-clause-ok
condition_called-returns-in_err-conditions_in-in-or-clause-ok t c =
    let p = err_from_is_err_and c.from_residual-in_err-conditions_in-in-or.result
    c.from_residual-in_err-conditions_in-in-or.ensures.1 in
    rw p.1 tt

pub condition_called-returns-in_err-conditions_in-in-or-clause-fault :
    goal.condition_called-returns-in_err-conditions_in-in-or-clause-fault
condition_called-returns-in_err-conditions_in-in-or-clause-fault t c =
    let p = err_from_is_err_and c.from_residual-in_err-conditions_in-in-or.result
    c.from_residual-in_err-conditions_in-in-or.ensures.1 in
    rw (p.1, p.2)
    (some_fails c.args.depth c.args.name.now (view c.args.value.now) c.in_err-conditions_in-in-or.field-0.0
    (omega arith) c.in-or.is c.in_err-conditions_in-in-or.ensures.fault)

pub condition_called-returns-in_err-other-in-not-clause-ok : goal.condition_called-returns-in_err-other-in-not-clause-ok
condition_called-returns-in_err-other-in-not-clause-ok t c =
    let p = err_from_is_err_and c.from_residual-in_err-other-in-not.result c.from_residual-in_err-other-in-not.ensures.1
    in
    rw p.1 tt

pub condition_called-returns-in_err-other-in-not-clause-fault :
    goal.condition_called-returns-in_err-other-in-not-clause-fault
condition_called-returns-in_err-other-in-not-clause-fault t c =
    let p = err_from_is_err_and c.from_residual-in_err-other-in-not.result c.from_residual-in_err-other-in-not.ensures.1
    in
    rw (p.1, p.2)
    (contrary_fails c.args.depth c.args.name.now (view c.args.value.now) c.in_err-other-in-not.field-0.0 (omega arith)
    c.in-not.is c.in_err-other-in-not.ensures.fault)

pub condition_called-returns-in_err-new-in-not-clause-ok : goal.condition_called-returns-in_err-new-in-not-clause-ok
condition_called-returns-in_err-new-in-not-clause-ok t c =
    let p = err_from_is_err_and c.from_residual-in_err-new-in-not.result c.from_residual-in_err-new-in-not.ensures.1 in
    rw p.1 tt

pub condition_called-returns-in_err-new-in-not-clause-fault :
    goal.condition_called-returns-in_err-new-in-not-clause-fault
condition_called-returns-in_err-new-in-not-clause-fault t c =
    let p = err_from_is_err_and c.from_residual-in_err-new-in-not.result c.from_residual-in_err-new-in-not.ensures.1 in
    rw (p.1, p.2) tt

pub condition_called-returns-in_ok-conditions_in-in-and-clause-fault :
    goal.condition_called-returns-in_ok-conditions_in-in-and-clause-fault
condition_called-returns-in_ok-conditions_in-in-and-clause-fault t c =
    tt

pub condition_called-returns-in_ok-conditions_in-in-or-clause-fault :
    goal.condition_called-returns-in_ok-conditions_in-in-or-clause-fault
condition_called-returns-in_ok-conditions_in-in-or-clause-fault t c =
    tt

pub condition_called-returns-in_ok-new-in-not-clause-fault : goal.condition_called-returns-in_ok-new-in-not-clause-fault
condition_called-returns-in_ok-new-in-not-clause-fault t c =
    tt

pub condition_called-returns-in-Some-clause-fault : goal.condition_called-returns-in-Some-clause-fault
condition_called-returns-in-Some-clause-fault t c =
    tt

pub condition_called-returns-in-None-clause-ok : goal.condition_called-returns-in-None-clause-ok
condition_called-returns-in-None-clause-ok t c =
    tt

pub condition_called-returns-in-None-clause-fault : goal.condition_called-returns-in-None-clause-fault
condition_called-returns-in-None-clause-fault t c =
    ap (option_and_then (not_deeper c.args.depth)) (atom_named c.args.name.now (view c.args.value.now) None
    c.in_default.not-and c.in_default.not-or c.in_default.not-not c.in-None.ensures)

pub condition_of-returns-then-depth-eq0-clause-fault : goal.condition_of-returns-then-depth-eq0-clause-fault
condition_of-returns-then-depth-eq0-clause-fault t c =
    rw c.if-depth-eq0.true (none_at_no_depth (formula_of (view c.args.value.now)))

pub condition_of-returns-in-Some-clause-ok : goal.condition_of-returns-in-Some-clause-ok
condition_of-returns-in-Some-clause-ok t c =
    rw (formula_of_sole (view c.args.value.now) ∙ ap formula_by (sym c.in-Some.ensures)) c.condition_called.ensures.ok

pub condition_of-returns-in-Some-clause-fault : goal.condition_of-returns-in-Some-clause-fault
condition_of-returns-in-Some-clause-fault t c =
    rw (formula_of_sole (view c.args.value.now) ∙ ap formula_by (sym c.in-Some.ensures))
    c.condition_called.ensures.fault

pub condition_of-returns-in-None-clause-fault : goal.condition_of-returns-in-None-clause-fault
condition_of-returns-in-None-clause-fault t c =
    ap (option_and_then (not_deeper c.args.depth)) (formula_of_sole (view c.args.value.now) ∙ ap formula_by
    (sym c.in-None.ensures))

pub conditions_in-returns-in-Some-clause-ok : goal.conditions_in-returns-in-Some-clause-ok
conditions_in-returns-in-Some-clause-ok t c =
    rw (formulas_in_array (view c.args.value.now) ∙ (ap (option_and_then formulas_of) (sym c.in-Some.ensures)
    ∙ ap (λ values. formulas_of (items_view values)) (sym c.as_slice.ensures.value))) c.conditions_of.ensures.ok

pub conditions_in-returns-in-Some-clause-fault : goal.conditions_in-returns-in-Some-clause-fault
conditions_in-returns-in-Some-clause-fault t c =
    rw (formulas_in_array (view c.args.value.now) ∙ (ap (option_and_then formulas_of) (sym c.in-Some.ensures)
    ∙ ap (λ values. formulas_of (items_view values)) (sym c.as_slice.ensures.value))) c.conditions_of.ensures.fault

pub conditions_in-returns-in-None-clause-fault : goal.conditions_in-returns-in-None-clause-fault
conditions_in-returns-in-None-clause-fault t c =
    ap (option_and_then (none_deeper c.args.depth)) (formulas_in_array (view c.args.value.now)
    ∙ ap (option_and_then formulas_of) (sym c.in-None.ensures))

pub conditions_of-loop-value-init : goal.conditions_of-loop-value-init
conditions_of-loop-value-init t c =
    rw c.new-members.ensures.items refl

pub conditions_of-returns-in_err-condition_of-clause-ok : goal.conditions_of-returns-in_err-condition_of-clause-ok
conditions_of-returns-in_err-condition_of-clause-ok t c =
    let p = err_from_is_err_and c.from_residual.result c.from_residual.ensures.1 in
    rw p.1 tt

pub conditions_of-returns-in_err-condition_of-clause-fault : goal.conditions_of-returns-in_err-condition_of-clause-fault
conditions_of-returns-in_err-condition_of-clause-fault t c =
    let l = c.loop-value in
    let p = err_from_is_err_and c.from_residual.result c.from_residual.ensures.1 in
    rw (p.1, p.2)
    (value_fails c.args.depth l.members.items c.args.list.now l.value-index c.value-item.result
    c.in_err-condition_of.field-0.0 l.invariant (omega (arith, c.loop-value-test.true)) c.value-item.is
    c.in_err-condition_of.ensures.fault)

pub conditions_of-returns-in_err-push-clause-ok : goal.conditions_of-returns-in_err-push-clause-ok
conditions_of-returns-in_err-push-clause-ok t c =
    let p = err_from_is_err_and c.from_residual-in_err-push.result c.from_residual-in_err-push.ensures.1 in
    rw p.1 tt

pub conditions_of-returns-in_err-push-clause-fault : goal.conditions_of-returns-in_err-push-clause-fault
conditions_of-returns-in_err-push-clause-fault t c =
    let p = err_from_is_err_and c.from_residual-in_err-push.result c.from_residual-in_err-push.ensures.1 in
    rw (p.1, p.2) tt

pub conditions_of-returns-clause-ok : goal.conditions_of-returns-clause-ok
conditions_of-returns-clause-ok t c =
    let l = c.loop-value in
    all_kept l.members.items c.args.list.now l.value-index l.invariant (omega (arith, c.loop-value-test.false))
