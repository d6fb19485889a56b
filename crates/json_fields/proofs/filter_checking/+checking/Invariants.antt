use Rattle.std.proofs.Common.{◌≡◌, ◌+◌, ◌*◌, drop, option_and_then}
use Rattle.serde_json.specs.View.{items_view}
use Rattle.query_filter.specs.Limits.{left_after_all}
use Rattle.json_fields.specs.Filter.{formulas_of}
use Rattle.json_fields.proofs.filter_checking.+checking.Given as goal

abbrev pub invariant-atoms_left_of_all-loop-value : goal.invariant-atoms_left_of_all-loop-value
invariant-atoms_left_of_all-loop-value l =
    option_and_then (left_after_all l.depth l.atoms) (formulas_of (items_view l.list))
    ≡ option_and_then (left_after_all l.depth l.left) (formulas_of (items_view (drop l.value-index l.list)))

-- each step down is five steps lower
abbrev pub decreases-atoms_left : goal.decreases-atoms_left
decreases-atoms_left l = 5 * l.depth + 1

abbrev pub decreases-atoms_left_of_member : goal.decreases-atoms_left_of_member
decreases-atoms_left_of_member l = 5 * l.depth

abbrev pub decreases-atoms_left_of_list : goal.decreases-atoms_left_of_list
decreases-atoms_left_of_list l = 5 * l.depth + 4

abbrev pub decreases-atoms_left_of_items : goal.decreases-atoms_left_of_items
decreases-atoms_left_of_items l = 5 * l.depth + 3

abbrev pub decreases-atoms_left_of_all : goal.decreases-atoms_left_of_all
decreases-atoms_left_of_all l = 5 * l.depth + 2
