use Rattle.wire.proofs.LineLemmas.{gives_line, memory_for, utf8_number}
use Rattle.wire.proofs.reading.read_bytes.Goals as goal

pub returns-in-Ok-clause-meaning : goal.returns-in-Ok-clause-meaning
returns-in-Ok-clause-meaning c =
    gives_line c.args.dialect c.args.bytes.now c.in-Ok.text.now c.read_text.result c.in-Ok.ensures.cases.0
    c.in-Ok.ensures.cases.1 c.read_text.ensures

pub returns-in-Ok-clause-memory : goal.returns-in-Ok-clause-memory
returns-in-Ok-clause-memory c =
    memory_for c.read_text.result (utf8_number c.args.bytes.now c.in-Ok.ensures.cases.1)
