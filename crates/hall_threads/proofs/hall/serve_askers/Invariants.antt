use Rattle.hall_threads.specs.Hall.{ServesHall}
use Rattle.hall_threads.proofs.hall.serve_askers.Given as goal

abbrev pub invariant-loop-key : goal.invariant-loop-key
invariant-loop-key g l =
    ServesHall g.L.Stream.Read.remaining g.L.Stream.Write.contents g.A.MessageServer.answers g.A.MessageServer.binary_text
    g.A.MessageServer.memory_text g.A.MessageServer.nobody l.fn.entrance.askers l.fn.talkers.clients l.fn.server
    l.entrance.askers l.talkers.clients l.server
