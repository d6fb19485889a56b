use Rattle.std.proofs.Common.{◌≡◌, ◌+◌, sym, ap, ◌∙◌, subst, arith}
use Rattle.movement.specs.declared.cell.Cell.{Cell}
use Rattle.movement.specs.Movement.{Section, IsSection}
use Rattle.movement.proofs.TablesLemmas.{
  IsSoFar,
  so_far_none,
  so_far_more,
  so_far_same,
  so_far_all,
  some_is_cell,
  none_is_no_cell,
}
use Rattle.movement.proofs.movement.Movement.scheduled.Goals as goal
use Rattle.movement.proofs.movement.Movement.scheduled.Goals.{then-is_some, else-is_some}

pub loop-table-init : goal.loop-table-init
loop-table-init c =
    let is_section : IsSection c.args.self.now = subst IsSection c.self.view_is c.self.invariant.1 in
    subst (λ numbers. IsSoFar c.args.self.now c.args.board numbers 0) (sym c.new-scheduled.ensures)
    (so_far_none c.args.self.now is_section c.args.board)

pub loop-table-preserved : goal.loop-table-preserved
loop-table-preserved c =
    let is_section : IsSection c.args.self.now = subst IsSection c.self.view_is c.self.invariant.1 in
    let tables = ap (λ (section : Section). section.tables) c.self.view_is in
    let few = is_section.not_too_many_tables in
    let cell : Cell = record { table = c.loop-table.table + 1; board = c.args.board } in
    elim c.if-is_some.branch [
      | then-is_some w ↦
          let is_cell =
          some_is_cell c.args.self.now cell c.cell.result (sym c.is_some.ensures ∙ w.if-is_some.true)
          c.cell.ensures.cell
          c.cell.ensures.some in
          rw (w.scheduled-is, w.insert.ensures)
          (so_far_more c.args.self.now is_section c.args.board c.loop-table.scheduled c.loop-table.table
          (omega arith) is_cell
          c.loop-table.invariant)
      | else-is_some w ↦
          let no_cell =
          none_is_no_cell c.args.self.now cell c.cell.result (sym c.is_some.ensures ∙ w.if-is_some.false)
          c.cell.ensures.none in
          rw w.scheduled-is
          (so_far_same c.args.self.now c.args.board c.loop-table.scheduled c.loop-table.table no_cell
          c.loop-table.invariant)
    ]

pub returns : goal.returns
returns c =
    let is_section : IsSection c.args.self.now = subst IsSection c.self.view_is c.self.invariant.1 in
    let tables = ap (λ (section : Section). section.tables) c.self.view_is in
    let all : c.loop-table.table ≡ c.args.self.now.tables = omega arith in
    so_far_all c.args.self.now is_section c.args.board c.loop-table.scheduled (rw all at c.loop-table.invariant)
