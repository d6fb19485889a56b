use Rattle.std.proofs.Common.{[], ◌-◌, sym, ap, ◌∙◌, arith}
use Rattle.std.specs.Prelude.{slice_set}
use Rattle.std.proofs.lemmas.List.{get_or_default, length-set}
use Rattle.small_sets.specs.Numbers.{without_number}
use Rattle.movement.specs.Movement.{most_tables}
use Rattle.disclosure_rules.specs.LiveCells.{tables_at}
use Rattle.disclosure_rules.proofs.LiveCellsLemmas.{tables_at_place}
use Rattle.disclosure_rules.proofs.live_cells.LiveCells.remove.Goals as goal

pub invariant_of-self : goal.invariant_of-self
invariant_of-self c = length-set c.self.inside.tables _ _ ∙ c.self.invariant

pub returns : goal.returns
returns c =
    let live = c.self.inside.tables in
    let board = c.args.cell.board in
    let all = c.self.invariant in
    let tables =
    get_or_default live _ _ [] (omega (arith, all))
    ∙ sym (tables_at_place live board c.requires.from_board)
    ∙ ap (λ live. tables_at live board) c.self.view_is in
    let more = c.remove.ensures ∙ ap (λ numbers. without_number most_tables numbers c.args.cell.table) tables in
    λ i. slice_set (c.self.view_is i) (board - 1) (more i)
