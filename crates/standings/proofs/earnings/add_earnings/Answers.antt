use Rattle.std.proofs.Common.{◌≡◌, sym, ap, ◌∙◌, subst, arith}
use Rattle.movement.specs.Movement.{IsCell}
use Rattle.standings.specs.declared.table_result.TableResult.{TableResult}
use Rattle.standings.specs.Ranking.{earning_of}
use Rattle.standings.proofs.EachLemmas.{next_made}
use Rattle.standings.proofs.earnings.add_earnings.Goals as goal

pub earning_of-requires-clause-cell : goal.earning_of-requires-clause-cell
earning_of-requires-clause-cell c =
    subst (λ (found : TableResult). IsCell c.args.movement.now found.cell) (sym c.found-item.is)
    (c.requires.cells c.loop-found.found-index c.found-item.result c.loop-found-test.true)

pub loop-found-preserved : goal.loop-found-preserved
loop-found-preserved c =
    let l = c.loop-found in
    let items : c.deref.result.now ≡ c.in_ok-scores.scores.items = cc in
    record {
      earnings =
          next_made (earning_of c.args.movement.now c.args.vulnerability c.in_ok-scores.scores.items)
          c.args.earnings.now.items c.args.results.now l.found-index c.found-item.result
          l.earnings.items c.push.new.self.items c.earning_of.result
          l.invariant.earnings c.loop-found-test.true c.found-item.is
          (c.earning_of.ensures ∙ ap (λ scores. earning_of c.args.movement.now c.args.vulnerability scores
          c.found-item.result) items) c.in_ok-push.ensures.items;
      many = omega (arith, c.in_ok-push.ensures.len, l.invariant.many);
    }
