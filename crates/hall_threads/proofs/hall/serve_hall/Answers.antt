use Rattle.hall_threads.proofs.HallLemmas.{served_first, served_on, served_at_last}
use Rattle.hall_threads.proofs.hall.serve_hall.Goals as goal

pub loop-init : goal.loop-init
loop-init g c =
    served_first _ _ _ _ c.new-entrance.ensures.connections c.new-entrance.ensures.left c.new-talkers.ensures

pub loop-preserved : goal.loop-preserved
loop-preserved g c = served_on c.loop.invariant c.serve_round.ensures

pub returns-then-is_over : goal.returns-then-is_over
returns-then-is_over g c = served_at_last (served_on c.loop.invariant c.serve_round.ensures)
