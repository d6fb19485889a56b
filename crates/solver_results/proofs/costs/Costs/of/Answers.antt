use Rattle.std.proofs.Common.{arith}
use Rattle.solver_results.proofs.CostsLemmas.{places_filled}
use Rattle.solver_results.proofs.costs.Costs.of.Goals as goal

pub invariant_of-result : goal.invariant_of-result
invariant_of-result c =
    places_filled c.copy_from_slice.new.self c.args.numbers.now c.copy_from_slice.ensures.after (omega arith)
