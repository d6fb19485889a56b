use Rattle.std.proofs.Common.{refl, sym, ap, arith}
use Rattle.movement.specs.Movement.{Section}
use Rattle.movement.proofs.CellLemmas.{cell_in_range}
use Rattle.movement.proofs.KeptLemmas.{played_at, not_played_at}
use Rattle.movement.proofs.movement.Movement.sitting.Goals as goal
use Rattle.movement.proofs.movement.Movement.sitting.Goals.{
  then-table-lt1-via-then-table-lt1,
  then-table-lt1-via-else-table-lt1+then-table-gt-MOST_TABLES,
  then-table-lt1-via-else-table-lt1+else-table-gt-MOST_TABLES+then-board-lt1,
  then-table-lt1-via-else-table-lt1+else-table-gt-MOST_TABLES+else-board-lt1+then-board-boards,
}

pub returns-then-table-lt1-clause-none : goal.returns-then-table-lt1-clause-none
returns-then-table-lt1-clause-none c is_cell =
    let is_section = c.boards-boards.ensures.section in
    let range = cell_in_range c.args.self.now (record { table = c.args.table; board = c.args.board }) is_section
    is_cell in
    let boards = c.boards-boards.ensures.boards in
    elim c.then-table-lt1.branch [
      | then-table-lt1-via-then-table-lt1 w ↦ absurd (omega (arith, range.from_table))
      | then-table-lt1-via-else-table-lt1+then-table-gt-MOST_TABLES w ↦
          absurd (omega (arith, range.to_table, is_section.not_too_many_tables))
      | then-table-lt1-via-else-table-lt1+else-table-gt-MOST_TABLES+then-board-lt1 w ↦
          absurd (omega (arith, range.from_board))
      | then-table-lt1-via-else-table-lt1+else-table-gt-MOST_TABLES+else-board-lt1+then-board-boards w ↦
          absurd (omega (arith, range.to_board))
    ]

pub returns-clause-some : goal.returns-clause-some
returns-clause-some c =
    let rows = ap (λ (section : Section). section.rows) (sym c.self.view_is) in
    played_at c.args.self.now c.self.inside.sittings c.args.table c.args.board c.place.result rows
    c.place.ensures.below c.place.ensures.table c.place.ensures.set _ refl

pub returns-clause-none : goal.returns-clause-none
returns-clause-none c =
    let rows = ap (λ (section : Section). section.rows) (sym c.self.view_is) in
    not_played_at c.args.self.now c.self.inside.sittings c.args.table c.args.board c.place.result rows
    (omega arith) (omega arith) c.place.ensures.place _ refl
