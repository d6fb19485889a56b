use Rattle.std.proofs.Common.{◌≡◌, ◌+◌, ◌*◌, drop}
use Rattle.serde_json.specs.View.{items_view}
use Rattle.json_fields.specs.Filter.{formulas_of}
use Rattle.json_fields.proofs.FormulaLemmas.{with_front}
use Rattle.json_fields.proofs.filter_reading.+reading.Given as goal

abbrev pub invariant-conditions_of-loop-value : goal.invariant-conditions_of-loop-value
invariant-conditions_of-loop-value l =
    formulas_of (items_view l.list) ≡ with_front l.members.items (formulas_of (items_view (drop l.value-index l.list)))

-- each step down is four steps lower
abbrev pub decreases-condition_of : goal.decreases-condition_of
decreases-condition_of l = 4 * l.depth + 1

abbrev pub decreases-condition_called : goal.decreases-condition_called
decreases-condition_called l = 4 * l.depth

abbrev pub decreases-conditions_in : goal.decreases-conditions_in
decreases-conditions_in l = 4 * l.depth + 3

abbrev pub decreases-conditions_of : goal.decreases-conditions_of
decreases-conditions_of l = 4 * l.depth + 2
