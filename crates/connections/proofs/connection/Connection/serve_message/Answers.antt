use Rattle.std.proofs.lemmas.Result.{on_err_weaker}
use Rattle.wire.proofs.LineLemmas.{wanted_is_text}
use Rattle.connections.proofs.connection.Connection.serve_message.Goals as goal

-- what wants something was read, so it is a text that isn't too long
pub returns-in-Ok-clause-memory : goal.returns-in-Ok-clause-memory
returns-in-Ok-clause-memory g c =
    on_err_weaker c.serve_read.result
    (λ refused. wanted_is_text c.args.self.now.opening.public.edition c.args.message.now c.in-Ok.body c.in-Ok.ensures.meaning)
    c.serve_read.ensures.refused
