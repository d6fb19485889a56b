use Rattle.std.proofs.Common.{sym, subst}
use Rattle.std.specs.Prelude.{All}
use Rattle.movement.specs.Movement.{IsCell}
use Rattle.disclosure_rules.specs.declared.public.Public.{Public}
use Rattle.standings.specs.declared.table_result.TableResult.{TableResult}
use Rattle.session_report.proofs.boards.board_of.Goals as goal

pub rows_of-requires-clause-cells : goal.rows_of-requires-clause-cells
rows_of-requires-clause-cells c =
    subst (λ (p : Public). All (λ (found : TableResult). IsCell p.movement found.cell) c.deref.result.now)
    (sym c.public.ensures.public)
    (subst (All (λ (found : TableResult). IsCell c.args.state.now.public.movement found.cell))
    (sym c.deref.ensures.value)
    c.put_results.ensures.cells)
