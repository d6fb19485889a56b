use Rattle.many_clients.proofs.HallLemmas.{each_visits}
use Rattle.many_clients.proofs.laws.each_client_comes_as_nobody.Goals as goal

pub returns : goal.returns
returns g c steps places places_after server server_after empty taken key client there =
    each_visits g.S.Read.remaining g.S.Write.contents g.A.MessageServer.answers
    g.A.MessageServer.binary_text g.A.MessageServer.memory_text g.A.MessageServer.nobody
    steps places server places_after server_after empty taken key client there
