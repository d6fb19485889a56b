use Rattle.std.proofs.Common.{All, subst, sym}
use Rattle.movement.specs.Movement.{IsCell}
use Rattle.disclosure_rules.specs.declared.public.Public.{Public}
use Rattle.standings.specs.declared.table_result.TableResult.{TableResult}
use Rattle.published_view.proofs.answers_of_state.traveller.Goals as goal

pub traveller_rows-requires-clause-cells : goal.traveller_rows-requires-clause-cells
traveller_rows-requires-clause-cells c =
    subst (λ (p : Public). All (λ (found : TableResult). IsCell p.movement found.cell) c.deref.result.now)
    (sym c.public.ensures.public)
    (subst (All (λ (found : TableResult). IsCell c.args.state.now.public.movement found.cell))
    (sym c.deref.ensures.value)
    c.in_ok-results.ensures.cells)
