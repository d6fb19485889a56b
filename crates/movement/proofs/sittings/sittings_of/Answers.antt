use Rattle.std.proofs.Common.{sym, ◌∙◌, ◌+◌, subst, arith}
use Rattle.movement.proofs.FillLemmas.{IsFilled, begun, left_out, put_there, filled_all}
use Rattle.movement.proofs.sittings.sittings_of.Goals as goal
use Rattle.movement.proofs.sittings.sittings_of.Goals.{then-are_there, else-are_there}

pub loop-row-init : goal.loop-row-init
loop-row-init c = begun c.args.absent c.args.rows.now

pub loop-row-preserved : goal.loop-row-preserved
loop-row-preserved c =
    let absent = c.args.absent in
    let rows = c.args.rows.now in
    let at = c.loop-row.row-index in
    elim c.if-are_there.branch [
      | then-are_there w ↦
          put_there absent rows c.loop-row.sittings at _ c.loop-row-test.true c.loop-row.invariant c.args.limits
          c.requires.sound c.requires.tables c.requires.sets (sym c.are_there.ensures ∙ w.if-are_there.true)
          c.if-are_there.sittings (w.sittings-is ∙ w.put.ensures)
      | else-are_there w ↦
          subst (λ sittings. IsFilled absent rows sittings (at + 1)) (sym w.sittings-is)
          (left_out absent rows c.loop-row.sittings at _ c.loop-row-test.true c.loop-row.invariant
          (sym c.are_there.ensures ∙ w.if-are_there.false))
    ]

pub returns-clause-rows : goal.returns-clause-rows
returns-clause-rows c =
    filled_all c.args.absent c.args.rows.now c.loop-row.sittings c.loop-row.row-index (omega arith) c.loop-row.invariant
