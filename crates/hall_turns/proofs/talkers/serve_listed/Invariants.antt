use Rattle.hall_turns.specs.Serving.{ServesTalkers}
use Rattle.hall_turns.proofs.talkers.serve_listed.Given as goal

abbrev pub invariant-loop-key : goal.invariant-loop-key
invariant-loop-key g l =
    ServesTalkers g.S.Read.remaining g.S.Write.contents g.A.MessageServer.answers g.A.MessageServer.binary_text
    g.A.MessageServer.memory_text g.A.MessageServer.nobody 0 l.fn.talkers.clients l.fn.server l.talkers.clients l.server
