use Rattle.std.proofs.Common.{All, subst, sym}
use Rattle.movement.specs.Movement.{IsCell}
use Rattle.standings.specs.declared.table_result.TableResult.{TableResult}
use Rattle.session_queries.proofs.ResultLemmas.{allowed_cells}
use Rattle.session_queries.proofs.results.shown_results.Goals as goal

pub returns-clause-cells : goal.returns-clause-cells
returns-clause-cells c =
    subst (All (λ (found : TableResult). IsCell c.args.state.now.public.movement found.cell))
    (sym c.in_ok-results.ensures.results)
    (allowed_cells c.args.state.now c.args.viewer.now c.args.board c.args.state.now.public.movement.tables)
