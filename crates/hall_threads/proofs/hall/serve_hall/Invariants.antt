use Rattle.hall_threads.proofs.HallLemmas.{HasServedTo}
use Rattle.hall_threads.proofs.hall.serve_hall.Given as goal

abbrev pub invariant-loop : goal.invariant-loop
invariant-loop g l =
    HasServedTo g.L.Stream.Read.remaining g.L.Stream.Write.contents g.A.MessageServer.answers g.A.MessageServer.binary_text
    g.A.MessageServer.memory_text g.A.MessageServer.nobody l.fn.plan.connections l.fn.server l.entrance.askers
    l.talkers.clients l.server
