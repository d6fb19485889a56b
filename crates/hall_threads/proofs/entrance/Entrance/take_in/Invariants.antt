use Rattle.hall_threads.specs.Askers.{LeavesFewer}
use Rattle.hall_threads.proofs.entrance.Entrance.take_in.Given as goal

abbrev pub invariant-loop : goal.invariant-loop
invariant-loop g l = LeavesFewer 0 l.fn.self.askers l.self.askers
