-- What a cell of a section can have.
use Rattle.std.proofs.Common.{◌≡◌, ◌+◌, ◌-◌, sym, subst, arith}
use Rattle.movement.specs.declared.cell.Cell.{Cell}
use Rattle.movement.specs.Movement.{Section, IsSection, IsOfSet, IsCell}
use Rattle.movement.specs.Row.{IsCellInRange}
use Rattle.movement.proofs.SetLemmas.{within-boards}

pub cell_in_range : (section : Section) (cell : Cell) → IsSection section → IsCell section cell →
    IsCellInRange section cell
cell_in_range section cell is_section (k, row, within, here, has) =
    let range = is_section.in_range row (k, within, here) in
    let table : row.table ≡ cell.table = has.table in
    let next : (row.set - 1) + 1 ≡ row.set = omega (arith, range.from_set) in
    let boards = within-boards section (row.set - 1) cell.board (omega (arith, range.from_set, range.to_set))
    (subst (λ set. IsOfSet section set cell.board) (sym next) has.board) in
    record {
      from_table = omega (arith, range.from_table);
      to_table = omega (arith, range.to_table);
      from_board = boards.0;
      to_board = boards.1;
    }
