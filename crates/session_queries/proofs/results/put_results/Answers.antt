use Rattle.std.proofs.Common.{All, subst, sym}
use Rattle.movement.specs.Movement.{IsCell}
use Rattle.standings.specs.declared.table_result.TableResult.{TableResult}
use Rattle.session_queries.proofs.LiveLemmas.{live_cells}
use Rattle.session_queries.proofs.results.put_results.Goals as goal

pub returns-clause-cells : goal.returns-clause-cells
returns-clause-cells c =
    subst (All (λ (found : TableResult). IsCell c.args.state.now.public.movement found.cell))
    (sym c.put_live.ensures.results)
    (live_cells c.args.state.now c.args.board)
