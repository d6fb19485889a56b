use Rattle.std.proofs.Common.{◌≡◌}
use Rattle.std.specs.Prelude.{All}
use Rattle.session_jobs.proofs.tasks.solvers.Given as goal

-- each worker has the budget
abbrev pub invariant-loop : goal.invariant-loop
invariant-loop l = All (λ solver. solver.budget ≡ l.budget) l.solvers.items
