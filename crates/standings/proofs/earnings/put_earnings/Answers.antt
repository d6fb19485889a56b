use Rattle.std.proofs.Common.{subst, sym}
use Rattle.movement.specs.Movement.{IsCell}
use Rattle.standings.specs.declared.table_result.TableResult.{TableResult}
use Rattle.standings.proofs.earnings.put_earnings.Goals as goal

pub earning_of-requires-clause-cell : goal.earning_of-requires-clause-cell
earning_of-requires-clause-cell c =
    subst (λ (found : TableResult). IsCell c.args.movement.now found.cell) (sym c.found-item.is)
    (c.requires.cells c.loop-found.found-index c.found-item.result c.loop-found-test.true)
