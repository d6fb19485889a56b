use Rattle.std.proofs.Common.{sym, ◌∙◌, subst, arith}
use Rattle.std.proofs.lemmas.Bool.{false≢true}
use Rattle.movement.proofs.MadeSoFarLemmas.{IsSoFar, IsBefore, nothing_yet, begins, ends, one_more, none_more, all_made}
use Rattle.movement.proofs.sittings.mitchell_sittings.Goals as goal
use Rattle.movement.proofs.sittings.mitchell_sittings.Goals.{then-plays, else-plays}

pub loop-table-init : goal.loop-table-init
loop-table-init c = nothing_yet c.args.section c.tables-tables.ensures.section

pub loop-round-init : goal.loop-round-init
loop-round-init c =
    begins c.args.section c.tables-tables.ensures.section c.loop-table.sittings c.loop-table.table
    c.loop-table.invariant

pub loop-round-preserved : goal.loop-round-preserved
loop-round-preserved c =
    let section = c.args.section in
    let is_section = c.tables-tables.ensures.section in
    let table = c.loop-table.table in
    let round = c.loop-round.round in
    elim c.if-plays.branch [
      | then-plays w ↦
          one_more section is_section c.loop-round.sittings c.if-plays.sittings table round w.mitchell_row.result
          w.mitchell_row.ensures.row w.mitchell_row.ensures.table w.mitchell_row.ensures.round
          (w.sittings-is ∙ w.put.ensures) c.loop-round.invariant
      | else-plays w ↦
          none_more section is_section c.if-plays.sittings table round
          (λ some. false≢true (sym w.if-plays.false ∙ c.plays.ensures.1 some))
          (subst (λ sittings. IsSoFar section sittings (IsBefore table round)) (sym w.sittings-is)
          c.loop-round.invariant)
    ]

pub loop-table-preserved : goal.loop-table-preserved
loop-table-preserved c =
    let rounds = c.rounds-rounds.ensures.rounds in
    ends c.args.section c.tables-tables.ensures.section c.loop-round.sittings c.loop-table.table c.loop-round.round
    (omega arith) c.loop-round.invariant

pub returns-clause-rows : goal.returns-clause-rows
returns-clause-rows c =
    let tables = c.tables-tables.ensures.tables in
    all_made c.args.section c.tables-tables.ensures.section c.loop-table.sittings c.loop-table.table (omega arith)
    c.loop-table.invariant
