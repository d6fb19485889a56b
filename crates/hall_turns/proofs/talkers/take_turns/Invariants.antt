use Rattle.hall_turns.specs.Serving.{ServesTalkers}
use Rattle.hall_turns.proofs.talkers.take_turns.Given as goal

abbrev pub invariant-loop : goal.invariant-loop
invariant-loop g l =
    ServesTalkers g.S.Read.remaining g.S.Write.contents g.A.MessageServer.answers g.A.MessageServer.binary_text
    g.A.MessageServer.memory_text g.A.MessageServer.nobody 0 l.fn.talkers.clients l.fn.server l.talkers.clients l.server
