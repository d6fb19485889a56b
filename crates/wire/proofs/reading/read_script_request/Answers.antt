use Rattle.wire.proofs.LineLemmas.{memory_never}
use Rattle.wire.proofs.reading.read_script_request.Goals as goal

pub returns-in-Ok-clause-memory : goal.returns-in-Ok-clause-memory
returns-in-Ok-clause-memory c = memory_never _ c.said_request.result c.said_request.ensures.memory
