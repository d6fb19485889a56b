use Rattle.slab.specs.Slab.{get}
use Rattle.many_clients.proofs.HallLemmas.{one_more}
use Rattle.many_clients.proofs.clients.serve_all.Goals as goal

pub loop-key-preserved : goal.loop-key-preserved
loop-key-preserved g c =
    (one_more g.S.Read.remaining g.S.Write.contents g.A.MessageServer.answers
    g.A.MessageServer.binary_text g.A.MessageServer.memory_text g.A.MessageServer.nobody c.serve_at-end.result
    (get c.args.clients.now) c.args.server.now c.loop-key.clients c.loop-key.server c.serve_at-end.new.clients
    c.serve_at-end.new.server _ c.loop-key.invariant c.serve_at-end.ensures.others c.serve_at-end.ensures.turn
    c.serve_at-end.ensures.stays c.serve_at-end.ensures.nobody).0
