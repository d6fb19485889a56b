use Rattle.std.proofs.Common.{None, refl, length, ◌∙◌, sym, ap, suc, drop, add-one, arith, option_and_then}
use Rattle.serde_json.specs.View.{view, items_view}
use Rattle.query_filter.specs.Limits.{left_after_all}
use Rattle.json_fields.specs.Filter.{formula_of, formulas_in, formulas_of}
use Rattle.json_fields.proofs.FormulaLemmas.{
  formula_by,
  formula_of_sole,
  formulas_in_array,
  none_left_at_no_depth,
  left_after_each,
  left_after_some,
  left_after_contrary,
  atom_named,
  left_after_next,
  left_after_values,
  list_within,
  list_empty,
  list_too_long,
}
use Rattle.json_fields.proofs.filter_checking.+checking.Goals as goal
use Rattle.json_fields.proofs.filter_checking.+checking.Goals.{atoms_left_of_items-else-list-ge1-via-then-list-ge1+else-list-le-MOST_MEMBERS, atoms_left_of_items-else-list-ge1-via-else-list-ge1}

pub atoms_left_of_all-returns-in_err-left : goal.atoms_left_of_all-returns-in_err-left
atoms_left_of_all-returns-in_err-left t c =
    let l = c.loop-value in
    let i = l.value-index in
    c.from_residual.ensures
    ∙ sym (l.invariant
    ∙ (left_after_next c.args.depth l.left c.args.list.now i c.value-item.result (omega (arith, c.loop-value-test.true))
    c.value-item.is
    ∙ ap (option_and_then (λ n. option_and_then (left_after_all c.args.depth n)
    (formulas_of (items_view (drop (suc i) c.args.list.now))))) (sym c.atoms_left.ensures ∙ c.in_err-left.was)))

pub atoms_left_of_all-loop-value-preserved : goal.atoms_left_of_all-loop-value-preserved
atoms_left_of_all-loop-value-preserved t c =
    let l = c.loop-value in
    let i = l.value-index in
    rw add-one
    (l.invariant
    ∙ (left_after_next c.args.depth l.left c.args.list.now i c.value-item.result (omega (arith, c.loop-value-test.true))
    c.value-item.is
    ∙ ap (option_and_then (λ n. option_and_then (left_after_all c.args.depth n)
    (formulas_of (items_view (drop (suc i) c.args.list.now))))) (sym c.atoms_left.ensures ∙ c.in_ok-left.was)))

pub atoms_left_of_items-returns-then-list-le-MOST_MEMBERS :
    goal.atoms_left_of_items-returns-then-list-le-MOST_MEMBERS
atoms_left_of_items-returns-then-list-le-MOST_MEMBERS t c =
    let list = c.args.list.now in
    c.atoms_left_of_all.ensures
    ∙ sym (left_after_values c.args.depth c.args.atoms list
    ∙ list_within (length list) (option_and_then (left_after_all c.args.depth c.args.atoms)
    (formulas_of (items_view list))) c.if-list-ge1.true c.if-list-le-MOST_MEMBERS.true)

pub atoms_left_of_items-returns-else-list-ge1 : goal.atoms_left_of_items-returns-else-list-ge1
atoms_left_of_items-returns-else-list-ge1 t c =
    let list = c.args.list.now in
    let all = option_and_then (left_after_all c.args.depth c.args.atoms) (formulas_of (items_view list)) in
    sym (left_after_values c.args.depth c.args.atoms list
    ∙ (elim c.else-list-ge1.branch [
      | atoms_left_of_items-else-list-ge1-via-then-list-ge1+else-list-le-MOST_MEMBERS w ↦ list_too_long (length list)
          all w.if-list-le-MOST_MEMBERS.false
      | atoms_left_of_items-else-list-ge1-via-else-list-ge1 w ↦ list_empty (length list) all w.if-list-ge1.false
    ]))

pub atoms_left-returns-then-depth-eq0 : goal.atoms_left-returns-then-depth-eq0
atoms_left-returns-then-depth-eq0 t c =
    rw c.if-depth-eq0.true (sym (none_left_at_no_depth c.args.atoms (formula_of (view c.args.value.now))))

pub atoms_left-returns-in-Some : goal.atoms_left-returns-in-Some
atoms_left-returns-in-Some t c =
    rw (formula_of_sole (view c.args.value.now) ∙ ap formula_by (sym c.in-Some.ensures)) c.atoms_left_of_member.ensures

pub atoms_left-returns-in-None : goal.atoms_left-returns-in-None
atoms_left-returns-in-None t c =
    rw (formula_of_sole (view c.args.value.now) ∙ ap formula_by (sym c.in-None.ensures)) refl

pub atoms_left_of_member-returns-in-and : goal.atoms_left_of_member-returns-in-and
atoms_left_of_member-returns-in-and t c =
    rw c.in-and.is (c.atoms_left_of_list.ensures ∙ sym (left_after_each c.args.depth c.args.atoms
    (formulas_in (view c.args.value.now)) (omega arith)))

pub atoms_left_of_member-returns-in-or : goal.atoms_left_of_member-returns-in-or
atoms_left_of_member-returns-in-or t c =
    rw c.in-or.is (c.atoms_left_of_list-in-or.ensures ∙ sym (left_after_some c.args.depth c.args.atoms
    (formulas_in (view c.args.value.now)) (omega arith)))

pub atoms_left_of_member-returns-in-not : goal.atoms_left_of_member-returns-in-not
atoms_left_of_member-returns-in-not t c =
    rw c.in-not.is (c.atoms_left.ensures ∙ sym (left_after_contrary c.args.depth c.args.atoms
    (formula_of (view c.args.value.now)) (omega arith)))

pub atoms_left_of_member-returns-in-None : goal.atoms_left_of_member-returns-in-None
atoms_left_of_member-returns-in-None t c =
    rw (atom_named c.args.name.now (view c.args.value.now) None c.in_default.not-and c.in_default.not-or
    c.in_default.not-not c.in-None.ensures) refl

pub atoms_left_of_list-returns-in-Some : goal.atoms_left_of_list-returns-in-Some
atoms_left_of_list-returns-in-Some t c =
    rw (formulas_in_array (view c.args.value.now) ∙ (ap (option_and_then formulas_of) (sym c.in-Some.ensures)
    ∙ ap (λ values. formulas_of (items_view values)) (sym c.as_slice.ensures.value))) c.atoms_left_of_items.ensures

pub atoms_left_of_list-returns-in-None : goal.atoms_left_of_list-returns-in-None
atoms_left_of_list-returns-in-None t c =
    rw (formulas_in_array (view c.args.value.now) ∙ ap (option_and_then formulas_of) (sym c.in-None.ensures)) refl
