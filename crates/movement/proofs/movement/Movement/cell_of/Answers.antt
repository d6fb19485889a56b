use Rattle.std.proofs.Common.{sym, ap, ◌∙◌, ◌+◌, subst, arith, inl, inr, Any}
use Rattle.std.proofs.lemmas.Bool.{cases_eq, false≢true}
use Rattle.movement.specs.Movement.{Section, IsSection, HasCell}
use Rattle.movement.specs.Sound.{Seats}
use Rattle.movement.proofs.CellLemmas.{cell_in_range}
use Rattle.movement.proofs.KeptLemmas.{nobody_plays}
use Rattle.movement.proofs.ScheduleTests.{any_as}
use Rattle.movement.proofs.movement.Movement.cell_of.Goals as goal

pub loop-below-preserved : goal.loop-below-preserved
loop-below-preserved c k below some =
    elim (cases_eq k c.loop-below.below) [
      | inl same ↦
          let here =
          subst (λ k. Any (λ row. Seats row c.args.pair ×
          HasCell c.args.self.now row (record { table = k + 1; board = c.args.board })) c.args.self.now.rows) same some
          in
          absurd (false≢true (sym c.if-seats.false ∙ c.seats.ensures.1 here))
      | inr other ↦ c.loop-below.invariant k (omega arith) some
    ]

pub returns-clause-none : goal.returns-clause-none
returns-clause-none c =
    let is_section : IsSection c.args.self.now = subst IsSection c.self.view_is c.self.invariant.1 in
    let tables = ap (λ (section : Section). section.tables) c.self.view_is in
    nobody_plays c.args.self.now is_section c.args.pair c.args.board c.loop-below.below (omega arith)
    c.loop-below.invariant

pub returns-then-seats-clause-range : goal.returns-then-seats-clause-range
returns-then-seats-clause-range c =
    let is_section : IsSection c.args.self.now = subst IsSection c.self.view_is c.self.invariant.1 in
    cell_in_range c.args.self.now _ is_section (any_as _ _ _ (λ row both. both.1) (c.seats.ensures.0 c.if-seats.true))
