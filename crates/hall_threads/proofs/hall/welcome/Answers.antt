use Rattle.hall_turns.proofs.ServingLemmas.{serves_on}
use Rattle.hall_threads.proofs.hall.welcome.Goals as goal

pub returns-then-register_talker : goal.returns-then-register_talker
returns-then-register_talker g c = serves_on c.let_in.ensures c.serve_talker.ensures

pub returns-else-register_talker : goal.returns-else-register_talker
returns-else-register_talker g c = serves_on c.let_in.ensures c.end.ensures
