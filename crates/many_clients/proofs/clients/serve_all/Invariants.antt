use Rattle.slab.specs.Slab.{get}
use Rattle.many_clients.specs.Hall.{HasTaken, IsHallStep}
use Rattle.many_clients.proofs.clients.serve_all.Given as goal

abbrev pub invariant-loop-key : goal.invariant-loop-key
invariant-loop-key g l =
    HasTaken
    (IsHallStep g.S.Read.remaining g.S.Write.contents g.A.MessageServer.answers
    g.A.MessageServer.binary_text g.A.MessageServer.memory_text g.A.MessageServer.nobody)
    (get l.fn.clients) l.fn.server (get l.clients) l.server
