use Rattle.many_clients.specs.Hall.{IsHallStep}
use Rattle.many_clients.proofs.HallLemmas.{each_follows}
use Rattle.many_clients.proofs.laws.each_client_follows.Goals as goal

pub returns : goal.returns
returns g c steps places places_after server server_after taken key =
    each_follows
    (IsHallStep g.S.Read.remaining g.S.Write.contents g.A.MessageServer.answers
    g.A.MessageServer.binary_text g.A.MessageServer.memory_text g.A.MessageServer.nobody)
    steps places server places_after server_after taken key
