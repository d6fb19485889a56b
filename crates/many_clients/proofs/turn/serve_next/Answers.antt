use Rattle.many_clients.proofs.TurnLemmas.{reads_one}
use Rattle.many_clients.proofs.turn.serve_next.Goals as goal

pub returns-in-Ok : goal.returns-in-Ok
returns-in-Ok g c =
    let reads = rw c.in-Ok.is at c.read.ensures in
    reads_one g.S.Read.remaining g.S.Write.contents g.A.MessageServer.answers g.A.MessageServer.binary_text
    g.A.MessageServer.memory_text c.serve_message.result c.args.socket.now c.args.guest.now c.args.server.now
    c.serve_message.new.socket c.serve_message.new.guest c.serve_message.new.server
    (record { read = c.read.new.self; message = c.in-Ok.message; reads = reads; gets = c.serve_message.ensures })
